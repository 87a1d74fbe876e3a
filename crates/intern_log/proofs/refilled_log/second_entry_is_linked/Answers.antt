use Rattle.intern_log.proofs.RefilledLogLaws.{second_is_linked}
use Rattle.intern_log.proofs.refilled_log.second_entry_is_linked.Goals as goal

pub returns : goal.returns
returns c = record { law = second_is_linked }
