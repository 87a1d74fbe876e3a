use Rattle.schedule_sim.proofs.SameRuns.{runs_alike}
use Rattle.schedule_sim.proofs.laws.same_scripts_run_alike.Goals as goal

pub returns : goal.returns
returns c = record { law = runs_alike }
