use Rattle.intern_log.proofs.HeldLaws.{held_one_more}
use Rattle.intern_log.proofs.held_laws.texts_held_by_one_more_event.Goals as goal

pub returns : goal.returns
returns c = record { law = held_one_more }
