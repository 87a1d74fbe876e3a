use Rattle.intern_log.proofs.Places.{StandsIn-pieces}
use Rattle.intern_log.proofs.window_laws.events_of_two_pieces.Goals as goal

pub returns : goal.returns
returns c = record { law = StandsIn-pieces }
