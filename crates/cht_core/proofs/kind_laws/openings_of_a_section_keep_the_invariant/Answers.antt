use Rattle.atomic_step.specs.declared.access.StepKind.TheVariants.{K10}
use Rattle.cht_core.proofs.KindKeeps.{kind_keeps}
use Rattle.cht_core.proofs.KindSteps.{openings_of_a_section_keep}
use Rattle.cht_core.proofs.kind_laws.openings_of_a_section_keep_the_invariant.Goals as goal

pub returns : goal.returns
returns c = record { keeps = kind_keeps K10 openings_of_a_section_keep }
