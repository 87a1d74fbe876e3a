use Rattle.intern_log.proofs.OneMore.{IsLawful-one_more}
use Rattle.intern_log.proofs.event_laws.lawfulness_of_one_more_event.Goals as goal

pub returns : goal.returns
returns c = record { law = IsLawful-one_more }
