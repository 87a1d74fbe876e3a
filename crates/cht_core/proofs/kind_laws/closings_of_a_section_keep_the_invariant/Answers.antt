use Rattle.atomic_step.specs.declared.access.StepKind.TheVariants.{K11}
use Rattle.cht_core.proofs.KindKeeps.{kind_keeps}
use Rattle.cht_core.proofs.KindSteps.{closings_of_a_section_keep}
use Rattle.cht_core.proofs.kind_laws.closings_of_a_section_keep_the_invariant.Goals as goal

pub returns : goal.returns
returns c = record { keeps = kind_keeps K11 closings_of_a_section_keep }
