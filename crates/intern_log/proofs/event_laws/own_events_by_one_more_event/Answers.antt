use Rattle.intern_log.proofs.OneMore.{mine-one_more}
use Rattle.intern_log.proofs.event_laws.own_events_by_one_more_event.Goals as goal

pub returns : goal.returns
returns c = record { law = mine-one_more }
