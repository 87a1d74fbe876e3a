use Rattle.atomic_step.proofs.Words.{own, others}
use Rattle.atomic_step.proofs.word_laws.a_step_changes_at_most_its_word.Goals as goal

pub returns-clause-own : goal.returns-clause-own
returns-clause-own c = own

pub returns-clause-others : goal.returns-clause-others
returns-clause-others c = others
