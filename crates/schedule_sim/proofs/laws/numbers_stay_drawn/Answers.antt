use Rattle.schedule_sim.proofs.Lasting.{drawn_last}
use Rattle.schedule_sim.proofs.laws.numbers_stay_drawn.Goals as goal

pub returns : goal.returns
returns c = record { law = drawn_last }
