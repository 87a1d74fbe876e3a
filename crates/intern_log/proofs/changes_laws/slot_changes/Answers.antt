use Rattle.intern_log.proofs.Changed.{slot_changed}
use Rattle.intern_log.proofs.changes_laws.slot_changes.Goals as goal

pub returns : goal.returns
returns c = record { law = slot_changed }
