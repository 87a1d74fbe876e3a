use Rattle.cht_run.specs.Cleans.{passes_in}
use Rattle.cht_run.proofs.table.Cht.clean_bucket.Given as goal

abbrev pub ghosts-clean_chain : goal.ghosts-clean_chain
ghosts-clean_chain g a = record { passes = passes_in g.M.Began.sight a.along.now }
