use Rattle.intern_log.proofs.Places.{IsPlaceOf-one_more}
use Rattle.intern_log.proofs.window_laws.places_by_one_more_event.Goals as goal

pub returns : goal.returns
returns c = record { law = IsPlaceOf-one_more }
