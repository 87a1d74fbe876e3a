use Rattle.call_machine.specs.declared.call.Call.TheVariants as call
use Rattle.cht_run.proofs.table.Cht.try_drop.Given as goal

abbrev pub ghosts-let_go : goal.ghosts-let_go
ghosts-let_go a = record { sight = a.seat.now.me.0; call = call.Drop a.request.now.handle }
