use Rattle.section_core.proofs.Runs.{waits_since}
use Rattle.section_core.proofs.laws.grace_waits_for_who_was_there.Goals as goal

pub returns : goal.returns
returns c = record { law = waits_since }
