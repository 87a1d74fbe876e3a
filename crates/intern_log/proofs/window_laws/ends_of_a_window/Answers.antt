use Rattle.intern_log.proofs.Places.{begins_itself}
use Rattle.intern_log.proofs.window_laws.ends_of_a_window.Goals as goal

pub returns : goal.returns
returns c = record { law = λ before after begins. ((begins_itself before, begins), (begins, begins_itself after)) }
