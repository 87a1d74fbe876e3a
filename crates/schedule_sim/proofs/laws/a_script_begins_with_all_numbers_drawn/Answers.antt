use Rattle.schedule_sim.proofs.Opened.{opens_drawn}
use Rattle.schedule_sim.proofs.laws.a_script_begins_with_all_numbers_drawn.Goals as goal

pub returns : goal.returns
returns c = record { law = opens_drawn }
