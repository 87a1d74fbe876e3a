use Rattle.cht_core.proofs.GraceBounds.{few_graces, few_at_first, few_when_done}
use Rattle.cht_core.proofs.GraceRuns.{few_when_answered}
use Rattle.cht_core.proofs.grace_bound_laws.a_grow_has_few_graces.Goals as goal

pub returns-clause-law : goal.returns-clause-law
returns-clause-law c = few_graces

pub returns-clause-early : goal.returns-clause-early
returns-clause-early c = few_at_first

pub returns-clause-done : goal.returns-clause-done
returns-clause-done c = few_when_done

pub returns-clause-answers : goal.returns-clause-answers
returns-clause-answers c = few_when_answered
