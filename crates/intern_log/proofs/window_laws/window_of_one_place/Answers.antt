use Rattle.intern_log.proofs.Places.{IsPlaceOf-one}
use Rattle.intern_log.proofs.window_laws.window_of_one_place.Goals as goal

pub returns : goal.returns
returns c = record { law = IsPlaceOf-one }
