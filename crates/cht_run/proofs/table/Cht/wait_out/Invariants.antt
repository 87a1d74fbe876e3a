use Rattle.cht_run.specs.Resizes.{scans_in}
use Rattle.cht_run.proofs.table.Cht.wait_out.Given as goal

abbrev pub ghosts-scan_in_resize : goal.ghosts-scan_in_resize
ghosts-scan_in_resize g a = record { scans = scans_in g.M.Began.sight a.direction a.along.now a.after }
