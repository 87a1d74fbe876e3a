use Rattle.intern_log.proofs.Places.{IsAtSomePlace-one_more}
use Rattle.intern_log.proofs.window_laws.missing_by_one_more_event.Goals as goal

pub returns : goal.returns
returns c = record { law = λ before after e text. IsAtSomePlace-one_more before after e _ }
