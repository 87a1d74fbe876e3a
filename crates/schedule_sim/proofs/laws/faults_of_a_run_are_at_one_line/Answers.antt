use Rattle.schedule_sim.proofs.OneRun.{one_fault_of_run}
use Rattle.schedule_sim.proofs.laws.faults_of_a_run_are_at_one_line.Goals as goal

pub returns : goal.returns
returns c = record { law = one_fault_of_run }
