use Rattle.intern_log.proofs.RefilledLogLaws.{first_is_not_linked}
use Rattle.intern_log.proofs.refilled_log.first_entry_is_not_linked.Goals as goal

pub returns : goal.returns
returns c = record { law = first_is_not_linked }
