use Rattle.schedule_sim.proofs.Exact.{one_fault}
use Rattle.schedule_sim.proofs.laws.faults_are_at_one_line.Goals as goal

pub returns : goal.returns
returns c = record { law = one_fault }
