use Rattle.intern_log.proofs.SeededLaws.{last_seed}
use Rattle.intern_log.proofs.seed_laws.seed_of_the_last_rehash.Goals as goal

pub returns : goal.returns
returns c = record { law = last_seed }
