use Rattle.schedule_sim.proofs.SameLines.{one_script}
use Rattle.schedule_sim.proofs.laws.scripts_of_bytes_are_one.Goals as goal

pub returns : goal.returns
returns c = record { law = one_script }
