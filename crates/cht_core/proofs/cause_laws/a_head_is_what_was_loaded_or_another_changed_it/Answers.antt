use Rattle.cht_core.proofs.CauseWorkHeads.{headed_steps}
use Rattle.cht_core.proofs.cause_laws.a_head_is_what_was_loaded_or_another_changed_it.Goals as goal

-- src/cause_laws.rt:91:1
pub returns-clause-steps : goal.returns-clause-steps
returns-clause-steps c = headed_steps
