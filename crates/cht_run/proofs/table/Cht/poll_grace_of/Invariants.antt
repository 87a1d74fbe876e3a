use Rattle.call_machine.specs.declared.grace.GraceStage.TheVariants.{LoadSection}
use Rattle.call_machine.specs.Begin.{graced}
use Rattle.cht_run.specs.Beginnings.{begins_at}
use Rattle.cht_run.proofs.table.Cht.poll_grace_of.Given as goal

abbrev pub ghosts-scan : goal.ghosts-scan
ghosts-scan g a = record { scans = λ x s. begins_at g.M.Began.sight (graced LoadSection x s) }
