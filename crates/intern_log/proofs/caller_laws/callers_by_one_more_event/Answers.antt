use Rattle.intern_log.proofs.CallerHolds.{AreCallers-one_more}
use Rattle.intern_log.proofs.caller_laws.callers_by_one_more_event.Goals as goal

pub returns : goal.returns
returns c = record { law = AreCallers-one_more }
