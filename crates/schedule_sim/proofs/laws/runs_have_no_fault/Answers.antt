use Rattle.schedule_sim.proofs.OneRun.{runs_meet}
use Rattle.schedule_sim.proofs.laws.runs_have_no_fault.Goals as goal

pub returns : goal.returns
returns c = record { law = runs_meet }
