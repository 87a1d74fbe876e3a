use Rattle.cht_run.proofs.HeldOnce.{callers_hold_live}
use Rattle.cht_run.proofs.hold_laws.callers_hold_live_handles.Goals as goal

pub returns : goal.returns
returns c = record { law = callers_hold_live }
