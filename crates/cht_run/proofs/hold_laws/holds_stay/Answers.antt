use Rattle.cht_run.proofs.HoldsOn.{holds_on}
use Rattle.cht_run.proofs.hold_laws.holds_stay.Goals as goal

pub returns : goal.returns
returns c = record { law = holds_on }
