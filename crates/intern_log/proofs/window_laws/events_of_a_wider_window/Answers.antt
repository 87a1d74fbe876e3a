use Rattle.intern_log.proofs.Places.{StandsIn-wider}
use Rattle.intern_log.proofs.window_laws.events_of_a_wider_window.Goals as goal

pub returns : goal.returns
returns c = record { law = StandsIn-wider }
