use Rattle.intern_log.proofs.CallerHolds.{held_by_caller}
use Rattle.intern_log.proofs.caller_laws.handles_of_callers_are_live.Goals as goal

pub returns : goal.returns
returns c = record { law = held_by_caller }
