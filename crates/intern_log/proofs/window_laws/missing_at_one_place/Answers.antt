use Rattle.intern_log.proofs.Places.{IsAtSomePlace-one}
use Rattle.intern_log.proofs.window_laws.missing_at_one_place.Goals as goal

pub returns : goal.returns
returns c = record { law = λ log text. IsAtSomePlace-one log _ }
