use Rattle.intern_log.proofs.HeldLaws.{held_by_some_is}
use Rattle.intern_log.proofs.held_laws.handles_held_by_some_caller.Goals as goal

pub returns : goal.returns
returns c = record { law = held_by_some_is }
