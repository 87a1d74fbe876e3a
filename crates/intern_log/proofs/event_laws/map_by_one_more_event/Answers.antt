use Rattle.intern_log.proofs.OneMore.{map_of-one_more}
use Rattle.intern_log.proofs.event_laws.map_by_one_more_event.Goals as goal

pub returns : goal.returns
returns c = record { law = map_of-one_more }
