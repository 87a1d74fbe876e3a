use Rattle.intern_log.proofs.Changed.{level_changed}
use Rattle.intern_log.proofs.changes_laws.level_changes.Goals as goal

pub returns : goal.returns
returns c = record { law = level_changed }
