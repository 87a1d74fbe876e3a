use Rattle.atomic_step.specs.declared.access.StepKind.TheVariants.{K3}
use Rattle.cht_core.proofs.KindKeeps.{kind_keeps}
use Rattle.cht_core.proofs.KindSteps.{stores_into_an_own_slot_keep}
use Rattle.cht_core.proofs.kind_laws.stores_into_an_own_slot_keep_the_invariant.Goals as goal

pub returns : goal.returns
returns c = record { keeps = kind_keeps K3 stores_into_an_own_slot_keep }
