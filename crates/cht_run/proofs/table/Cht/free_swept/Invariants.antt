use Rattle.cht_run.specs.SweepSteps.{frees_in, scans_in}
use Rattle.cht_run.proofs.table.Cht.free_swept.Given as goal

abbrev pub ghosts-wait_swept : goal.ghosts-wait_swept
ghosts-wait_swept g a = record { scans = scans_in a.asked.now a.along.now }

abbrev pub ghosts-free_waiting : goal.ghosts-free_waiting
ghosts-free_waiting g a = record { frees = frees_in a.asked.now a.along.now }
