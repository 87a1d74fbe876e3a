use Rattle.intern_log.proofs.OneMore.{IsFresh-one_more}
use Rattle.intern_log.proofs.event_laws.freshness_of_one_more_event.Goals as goal

pub returns : goal.returns
returns c = record { law = IsFresh-one_more }
