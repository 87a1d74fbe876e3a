use Rattle.intern_log.proofs.Places.{begins_through}
use Rattle.intern_log.proofs.window_laws.beginning_of_a_beginning.Goals as goal

pub returns : goal.returns
returns c = record { law = begins_through }
