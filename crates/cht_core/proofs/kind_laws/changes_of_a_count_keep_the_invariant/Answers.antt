use Rattle.atomic_step.specs.declared.access.StepKind.TheVariants.{K8}
use Rattle.cht_core.proofs.KindKeeps.{kind_keeps}
use Rattle.cht_core.proofs.KindSteps.{changes_of_a_count_keep}
use Rattle.cht_core.proofs.kind_laws.changes_of_a_count_keep_the_invariant.Goals as goal

pub returns : goal.returns
returns c = record { keeps = kind_keeps K8 changes_of_a_count_keep }
