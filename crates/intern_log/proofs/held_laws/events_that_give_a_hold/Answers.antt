use Rattle.intern_log.proofs.HeldLaws.{gain_is}
use Rattle.intern_log.proofs.held_laws.events_that_give_a_hold.Goals as goal

pub returns : goal.returns
returns c = record { law = gain_is }
