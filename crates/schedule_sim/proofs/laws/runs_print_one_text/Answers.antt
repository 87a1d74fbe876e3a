use Rattle.schedule_sim.proofs.OneRun.{runs_one}
use Rattle.schedule_sim.proofs.laws.runs_print_one_text.Goals as goal

pub returns : goal.returns
returns c = record { law = runs_one }
