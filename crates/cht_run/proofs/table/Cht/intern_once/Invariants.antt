use Rattle.call_machine.specs.declared.call.Call.TheVariants as call
use Rattle.cht_run.proofs.table.Cht.intern_once.Given as goal

abbrev pub ghosts-intern_as : goal.ghosts-intern_as
ghosts-intern_as a = record { sight = a.seat.now.me.0; call = call.Intern a.request.now.sought.text }
