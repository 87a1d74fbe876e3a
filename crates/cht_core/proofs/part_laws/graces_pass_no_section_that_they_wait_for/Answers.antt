use Rattle.cht_core.proofs.PartsHold.{graces_hold, graces_pass}
use Rattle.cht_core.proofs.part_laws.graces_pass_no_section_that_they_wait_for.Goals as goal

pub returns-clause-place : goal.returns-clause-place
returns-clause-place c = graces_hold

pub returns-clause-waiting : goal.returns-clause-waiting
returns-clause-waiting c = graces_pass
