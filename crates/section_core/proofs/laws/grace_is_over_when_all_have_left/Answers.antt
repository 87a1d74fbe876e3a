use Rattle.section_core.proofs.Runs.{over_since}
use Rattle.section_core.proofs.laws.grace_is_over_when_all_have_left.Goals as goal

pub returns : goal.returns
returns c = record { law = over_since }
