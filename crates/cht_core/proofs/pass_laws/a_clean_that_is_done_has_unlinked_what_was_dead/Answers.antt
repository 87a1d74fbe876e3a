use Rattle.cht_core.proofs.PassRuns.{cleaned_when_done, cleaned_by_step}
use Rattle.cht_core.proofs.pass_laws.a_clean_that_is_done_has_unlinked_what_was_dead.Goals as goal

pub returns-clause-done : goal.returns-clause-done
returns-clause-done c = cleaned_when_done

pub returns-clause-answers : goal.returns-clause-answers
returns-clause-answers c = cleaned_by_step
