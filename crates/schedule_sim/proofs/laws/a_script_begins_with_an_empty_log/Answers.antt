use Rattle.schedule_sim.proofs.Opened.{opens_calm}
use Rattle.schedule_sim.proofs.laws.a_script_begins_with_an_empty_log.Goals as goal

pub returns : goal.returns
returns c = record { law = opens_calm }
