use Rattle.atomic_step.specs.declared.access.StepKind.TheVariants.{K24}
use Rattle.cht_core.proofs.KindKeeps.{kind_keeps}
use Rattle.cht_core.proofs.KindSteps.{moves_keep}
use Rattle.cht_core.proofs.kind_laws.moves_keep_the_invariant.Goals as goal

pub returns : goal.returns
returns c = record { keeps = kind_keeps K24 moves_keep }
