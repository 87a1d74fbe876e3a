use Rattle.cht_run.specs.Cleans.{scans_in, frees_in}
use Rattle.cht_run.proofs.table.Cht.free_after.Given as goal

abbrev pub ghosts-scan_sections : goal.ghosts-scan_sections
ghosts-scan_sections g a = record { scans = scans_in g.M.Began.sight a.along.now a.freeing }

abbrev pub ghosts-free_slots : goal.ghosts-free_slots
ghosts-free_slots g a = record { frees = frees_in g.M.Began.sight a.clean.now.along a.freeing }
