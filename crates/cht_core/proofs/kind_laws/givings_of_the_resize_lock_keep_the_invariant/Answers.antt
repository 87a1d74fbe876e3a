use Rattle.atomic_step.specs.declared.access.StepKind.TheVariants.{K18}
use Rattle.cht_core.proofs.KindKeeps.{kind_keeps}
use Rattle.cht_core.proofs.KindSteps.{givings_of_the_resize_lock_keep}
use Rattle.cht_core.proofs.kind_laws.givings_of_the_resize_lock_keep_the_invariant.Goals as goal

pub returns : goal.returns
returns c = record { keeps = kind_keeps K18 givings_of_the_resize_lock_keep }
