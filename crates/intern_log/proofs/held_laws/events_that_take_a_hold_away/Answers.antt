use Rattle.intern_log.proofs.HeldLaws.{loss_is}
use Rattle.intern_log.proofs.held_laws.events_that_take_a_hold_away.Goals as goal

pub returns : goal.returns
returns c = record { law = loss_is }
