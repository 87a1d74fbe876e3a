use Rattle.intern_log.specs.Now.{opening}
use Rattle.intern_log.proofs.SeededLaws.{seed_kept}
use Rattle.intern_log.proofs.seed_laws.seed_without_a_rehash.Goals as goal

pub returns : goal.returns
returns c = record { law = λ min_level log none. seed_kept (opening min_level) log none }
