use Rattle.intern_log.proofs.Changed.{lock_changed}
use Rattle.intern_log.proofs.changes_laws.lock_changes.Goals as goal

pub returns : goal.returns
returns c = record { law = lock_changed }
