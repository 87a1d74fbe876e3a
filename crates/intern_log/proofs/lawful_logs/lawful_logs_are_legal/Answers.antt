use Rattle.intern_log.proofs.LawfulLaws.{lawful_is_legal}
use Rattle.intern_log.proofs.lawful_logs.lawful_logs_are_legal.Goals as goal

pub returns : goal.returns
returns c = record { law = lawful_is_legal }
