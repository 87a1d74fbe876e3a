use Rattle.atomic_step.specs.declared.access.StepKind.TheVariants.{K14}
use Rattle.cht_core.proofs.KindKeeps.{kind_keeps}
use Rattle.cht_core.proofs.KindSteps.{locks_keep}
use Rattle.cht_core.proofs.kind_laws.locks_keep_the_invariant.Goals as goal

pub returns : goal.returns
returns c = record { keeps = kind_keeps K14 locks_keep }
