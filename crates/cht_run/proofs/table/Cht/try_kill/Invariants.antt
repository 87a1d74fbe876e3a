use Rattle.call_machine.specs.declared.call.Call.TheVariants as call
use Rattle.cht_run.proofs.table.Cht.try_kill.Given as goal

abbrev pub ghosts-kill : goal.ghosts-kill
ghosts-kill a = record { sight = a.seat.now.me.0; call = call.Kill a.request.now.handle }
