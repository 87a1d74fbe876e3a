use Rattle.cht_core.proofs.SeatRests.{may_rest}
use Rattle.cht_core.proofs.seat_laws.seats_may_rest_after_an_answer.Goals as goal

pub returns : goal.returns
returns c = record { law = may_rest }
