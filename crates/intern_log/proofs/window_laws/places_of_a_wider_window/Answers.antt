use Rattle.intern_log.proofs.Places.{IsPlaceOf-wider}
use Rattle.intern_log.proofs.window_laws.places_of_a_wider_window.Goals as goal

pub returns : goal.returns
returns c = record { law = IsPlaceOf-wider }
