use Rattle.atomic_step.specs.declared.access.StepKind.TheVariants.{K17}
use Rattle.cht_core.proofs.KindKeeps.{kind_keeps}
use Rattle.cht_core.proofs.KindSteps.{takings_of_the_resize_lock_keep}
use Rattle.cht_core.proofs.kind_laws.takings_of_the_resize_lock_keep_the_invariant.Goals as goal

pub returns : goal.returns
returns c = record { keeps = kind_keeps K17 takings_of_the_resize_lock_keep }
