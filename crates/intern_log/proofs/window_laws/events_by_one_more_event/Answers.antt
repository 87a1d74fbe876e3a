use Rattle.intern_log.proofs.Places.{StandsIn-one_more}
use Rattle.intern_log.proofs.window_laws.events_by_one_more_event.Goals as goal

pub returns : goal.returns
returns c = record { law = StandsIn-one_more }
