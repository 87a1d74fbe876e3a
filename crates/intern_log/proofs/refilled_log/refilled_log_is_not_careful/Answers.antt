use Rattle.intern_log.proofs.RefilledLogLaws.{refilled_is_not_careful}
use Rattle.intern_log.proofs.refilled_log.refilled_log_is_not_careful.Goals as goal

pub returns : goal.returns
returns c = record { law = refilled_is_not_careful }
