use Rattle.intern_log.proofs.Changed.{graces_changed}
use Rattle.intern_log.proofs.changes_laws.graces_change.Goals as goal

pub returns : goal.returns
returns c = record { law = graces_changed }
