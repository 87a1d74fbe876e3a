use Rattle.intern_log.proofs.Places.{IsPlaceOf-cut}
use Rattle.intern_log.proofs.window_laws.places_of_a_window.Goals as goal

pub returns : goal.returns
returns c = record { law = IsPlaceOf-cut }
