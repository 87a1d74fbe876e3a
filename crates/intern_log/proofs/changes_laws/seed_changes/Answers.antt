use Rattle.intern_log.proofs.Changed.{seed_changed}
use Rattle.intern_log.proofs.changes_laws.seed_changes.Goals as goal

pub returns : goal.returns
returns c = record { law = seed_changed }
