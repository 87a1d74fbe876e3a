use Rattle.intern_log.proofs.Changed.{owner_changed}
use Rattle.intern_log.proofs.changes_laws.resize_owner_changes.Goals as goal

pub returns : goal.returns
returns c = record { law = owner_changed }
