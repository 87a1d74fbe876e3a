use Rattle.atomic_step.specs.declared.access.StepKind.TheVariants.{K22}
use Rattle.cht_core.proofs.KindKeeps.{kind_keeps}
use Rattle.cht_core.proofs.KindSteps.{new_levels_keep}
use Rattle.cht_core.proofs.kind_laws.new_levels_keep_the_invariant.Goals as goal

pub returns : goal.returns
returns c = record { keeps = kind_keeps K22 new_levels_keep }
