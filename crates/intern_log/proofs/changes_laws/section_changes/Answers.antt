use Rattle.intern_log.proofs.Changed.{section_changed}
use Rattle.intern_log.proofs.changes_laws.section_changes.Goals as goal

pub returns : goal.returns
returns c = record { law = section_changed }
