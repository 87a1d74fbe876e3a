use Rattle.intern_log.proofs.Places.{IsAtSomePlace-wider}
use Rattle.intern_log.proofs.window_laws.missing_in_a_wider_window.Goals as goal

pub returns : goal.returns
returns c = record { law = λ earlier before after later text. IsAtSomePlace-wider earlier before after later _ }
