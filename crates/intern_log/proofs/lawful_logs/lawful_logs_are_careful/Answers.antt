use Rattle.intern_log.proofs.Careful.{lawful_is_careful}
use Rattle.intern_log.proofs.lawful_logs.lawful_logs_are_careful.Goals as goal

pub returns : goal.returns
returns c = record { law = lawful_is_careful }
