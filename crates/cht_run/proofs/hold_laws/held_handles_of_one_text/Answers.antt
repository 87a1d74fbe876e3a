use Rattle.cht_run.proofs.HeldOnce.{held_once}
use Rattle.cht_run.proofs.hold_laws.held_handles_of_one_text.Goals as goal

pub returns : goal.returns
returns c = record { law = held_once }
