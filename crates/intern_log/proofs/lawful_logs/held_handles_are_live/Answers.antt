use Rattle.intern_log.proofs.Ledger.{held_is_live}
use Rattle.intern_log.proofs.lawful_logs.held_handles_are_live.Goals as goal

pub returns : goal.returns
returns c = record { law = held_is_live }
