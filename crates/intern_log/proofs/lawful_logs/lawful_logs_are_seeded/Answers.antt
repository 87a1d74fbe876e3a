use Rattle.intern_log.proofs.SeededLaws.{lawful_is_seeded}
use Rattle.intern_log.proofs.lawful_logs.lawful_logs_are_seeded.Goals as goal

pub returns : goal.returns
returns c = record { law = lawful_is_seeded }
