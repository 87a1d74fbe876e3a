use Rattle.atomic_step.specs.declared.access.StepKind.TheVariants.{K5}
use Rattle.cht_core.proofs.KindKeeps.{kind_keeps}
use Rattle.cht_core.proofs.KindSteps.{loads_of_a_head_keep}
use Rattle.cht_core.proofs.kind_laws.loads_of_a_head_keep_the_invariant.Goals as goal

pub returns : goal.returns
returns c = record { keeps = kind_keeps K5 loads_of_a_head_keep }
