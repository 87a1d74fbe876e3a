use Rattle.cht_core.proofs.SeatJoins.{may_join}
use Rattle.cht_core.proofs.seat_laws.seats_may_be_joined.Goals as goal

pub returns : goal.returns
returns c = record { law = may_join }
