use Rattle.intern_log.proofs.Changed.{resizing_changed}
use Rattle.intern_log.proofs.changes_laws.resizing_changes.Goals as goal

pub returns : goal.returns
returns c = record { law = resizing_changed }
