use Rattle.call_machine.specs.declared.call.Call.TheVariants as call
use Rattle.cht_run.proofs.table.Cht.run_begin_grace.Given as goal

abbrev pub ghosts-begin_grace_of : goal.ghosts-begin_grace_of
ghosts-begin_grace_of a = record { sight = a.seat.now.me.0; call = call.BeginGrace }
