use Rattle.cht_core.proofs.CauseHolds.{held_was_made}
use Rattle.cht_core.proofs.cause_laws.held_handles_were_created.Goals as goal

pub returns : goal.returns
returns c = record { law = held_was_made }
