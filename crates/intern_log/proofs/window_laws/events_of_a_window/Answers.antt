use Rattle.intern_log.proofs.Places.{StandsIn-cut}
use Rattle.intern_log.proofs.window_laws.events_of_a_window.Goals as goal

pub returns : goal.returns
returns c = record { law = StandsIn-cut }
