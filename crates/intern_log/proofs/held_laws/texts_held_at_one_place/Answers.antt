use Rattle.intern_log.proofs.HeldLaws.{held_at_one_place}
use Rattle.intern_log.proofs.held_laws.texts_held_at_one_place.Goals as goal

pub returns : goal.returns
returns c = record { law = held_at_one_place }
