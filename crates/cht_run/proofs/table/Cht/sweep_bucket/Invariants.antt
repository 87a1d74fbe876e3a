use Rattle.cht_run.specs.SweepSteps.{passes_in}
use Rattle.cht_run.proofs.table.Cht.sweep_bucket.Given as goal

abbrev pub ghosts-sweep_chain : goal.ghosts-sweep_chain
ghosts-sweep_chain g a = record { passes = passes_in a.asked.now a.along.now }
