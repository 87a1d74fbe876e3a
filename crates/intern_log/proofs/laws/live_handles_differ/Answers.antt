use Rattle.intern_log.proofs.Handles.{live_handles_differ_lem}
use Rattle.intern_log.proofs.laws.live_handles_differ.Goals as goal

pub returns : goal.returns
returns c = record { law = λ log legal. live_handles_differ_lem log legal }
