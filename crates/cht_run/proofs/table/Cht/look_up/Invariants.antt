use Rattle.call_machine.specs.declared.call.Call.TheVariants as call
use Rattle.cht_run.proofs.table.Cht.look_up.Given as goal

abbrev pub ghosts-look_up_as : goal.ghosts-look_up_as
ghosts-look_up_as a = record { sight = a.seat.now.me.0; call = call.Lookup a.request.now.sought.text }
