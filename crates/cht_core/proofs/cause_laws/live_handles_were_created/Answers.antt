use Rattle.cht_core.proofs.CauseLogs.{live_was_made}
use Rattle.cht_core.proofs.cause_laws.live_handles_were_created.Goals as goal

-- src/cause_laws.rt:113:1
pub returns : goal.returns
returns c = record { law = live_was_made }
