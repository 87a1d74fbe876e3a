use Rattle.intern_log.proofs.Places.{StandsIn-none}
use Rattle.intern_log.proofs.window_laws.no_event_in_a_window_of_one_place.Goals as goal

pub returns : goal.returns
returns c = record { law = StandsIn-none }
