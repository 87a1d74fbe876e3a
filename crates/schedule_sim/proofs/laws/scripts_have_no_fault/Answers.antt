use Rattle.schedule_sim.proofs.Exact.{no_fault}
use Rattle.schedule_sim.proofs.laws.scripts_have_no_fault.Goals as goal

pub returns : goal.returns
returns c = record { law = no_fault }
