use Rattle.cht_core.proofs.SeatJoins.{may_be_added}
use Rattle.cht_core.proofs.seat_laws.new_seats_may_be_added.Goals as goal

pub returns : goal.returns
returns c = record { law = may_be_added }
