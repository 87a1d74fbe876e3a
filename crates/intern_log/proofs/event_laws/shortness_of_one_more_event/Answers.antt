use Rattle.intern_log.proofs.OneMore.{IsShort-one_more}
use Rattle.intern_log.proofs.event_laws.shortness_of_one_more_event.Goals as goal

pub returns : goal.returns
returns c = record { law = IsShort-one_more }
