use Rattle.intern_log.proofs.Changed.{since_changed}
use Rattle.intern_log.proofs.changes_laws.since_changes.Goals as goal

pub returns : goal.returns
returns c = record { law = since_changed }
