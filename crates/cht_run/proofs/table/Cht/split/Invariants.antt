use Rattle.call_machine.specs.declared.call.Call.TheVariants as call
use Rattle.cht_run.proofs.table.Cht.split.Given as goal

abbrev pub ghosts-draw : goal.ghosts-draw
ghosts-draw a = record { sight = a.seat.now.me.0; call = call.Split }
