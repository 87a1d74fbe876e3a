use Rattle.intern_log.proofs.Graced.{lawful_is_graced}
use Rattle.intern_log.proofs.lawful_logs.lawful_logs_are_graced.Goals as goal

pub returns : goal.returns
returns c = record { law = lawful_is_graced }
