use Rattle.atomic_step.specs.declared.access.StepKind.TheVariants.{K1}
use Rattle.cht_core.proofs.KindKeeps.{kind_keeps}
use Rattle.cht_core.proofs.KindSteps.{draws_keep}
use Rattle.cht_core.proofs.kind_laws.draws_keep_the_invariant.Goals as goal

pub returns : goal.returns
returns c = record { keeps = kind_keeps K1 draws_keep }
