use Rattle.call_machine.specs.declared.call.Call.TheVariants as call
use Rattle.cht_run.proofs.table.Cht.try_permanent.Given as goal

abbrev pub ghosts-let_stay : goal.ghosts-let_stay
ghosts-let_stay a = record { sight = a.seat.now.me.0; call = call.Permanent a.request.now.handle }
