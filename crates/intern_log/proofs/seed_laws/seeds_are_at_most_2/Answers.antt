use Rattle.intern_log.proofs.SeededLaws.{seed_most}
use Rattle.intern_log.proofs.seed_laws.seeds_are_at_most_2.Goals as goal

pub returns : goal.returns
returns c = record { law = seed_most }
