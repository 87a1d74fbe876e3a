use Rattle.atomic_step.specs.declared.access.StepKind.TheVariants.{K21}
use Rattle.cht_core.proofs.KindKeeps.{kind_keeps}
use Rattle.cht_core.proofs.KindSteps.{heads_made_keep}
use Rattle.cht_core.proofs.kind_laws.heads_made_keep_the_invariant.Goals as goal

pub returns : goal.returns
returns c = record { keeps = kind_keeps K21 heads_made_keep }
