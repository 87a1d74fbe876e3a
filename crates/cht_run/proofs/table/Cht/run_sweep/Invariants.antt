use Rattle.call_machine.specs.declared.call.Call.TheVariants as call
use Rattle.cht_run.proofs.table.Cht.run_sweep.Given as goal

abbrev pub ghosts-sweep_of : goal.ghosts-sweep_of
ghosts-sweep_of g a = record { sight = a.seat.now.me.0; call = call.Sweep a.text }
