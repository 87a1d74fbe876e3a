use Rattle.cht_core.proofs.RunCauses.{caused_in_run}
use Rattle.cht_core.proofs.run_laws.each_answer_of_a_run_has_its_cause.Goals as goal

-- src/run_laws.rt:32:1
pub returns-clause-running : goal.returns-clause-running
returns-clause-running c = caused_in_run
