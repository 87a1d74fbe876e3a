use Rattle.intern_log.proofs.OneMore.{now_of-one_more}
use Rattle.intern_log.proofs.event_laws.now_by_one_more_event.Goals as goal

pub returns : goal.returns
returns c = record { law = now_of-one_more }
