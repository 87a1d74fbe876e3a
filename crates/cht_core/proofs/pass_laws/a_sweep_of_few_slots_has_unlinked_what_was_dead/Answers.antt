use Rattle.cht_core.proofs.PassRuns.{swept_when_answered, swept_by_step}
use Rattle.cht_core.proofs.pass_laws.a_sweep_of_few_slots_has_unlinked_what_was_dead.Goals as goal

pub returns-clause-done : goal.returns-clause-done
returns-clause-done c = swept_when_answered

pub returns-clause-answers : goal.returns-clause-answers
returns-clause-answers c = swept_by_step
