use Rattle.call_machine.specs.declared.call.Call.TheVariants as call
use Rattle.cht_run.proofs.table.Cht.intern_wait.Given as goal

abbrev pub ghosts-intern_until : goal.ghosts-intern_until
ghosts-intern_until g a = record { sight = a.seat.now.me.0; call = call.InternWait a.request.now.sought.text }
