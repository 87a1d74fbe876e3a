use Rattle.intern_log.proofs.Places.{IsPlaceOf-pieces}
use Rattle.intern_log.proofs.window_laws.places_of_two_pieces.Goals as goal

pub returns : goal.returns
returns c = record { law = IsPlaceOf-pieces }
