use Rattle.intern_log.proofs.HeldLaws.{drop_their_own_is}
use Rattle.intern_log.proofs.held_laws.callers_that_drop_their_own.Goals as goal

pub returns : goal.returns
returns c = record { law = drop_their_own_is }
