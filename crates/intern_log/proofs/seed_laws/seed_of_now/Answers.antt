use Rattle.intern_log.specs.Now.{opening}
use Rattle.intern_log.proofs.SeededLaws.{seed_is}
use Rattle.intern_log.proofs.seed_laws.seed_of_now.Goals as goal

pub returns : goal.returns
returns c = record { law = λ min_level log. seed_is (opening min_level) log }
