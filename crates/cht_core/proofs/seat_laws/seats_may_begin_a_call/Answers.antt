use Rattle.cht_core.proofs.SeatBegins.{may_begin}
use Rattle.cht_core.proofs.seat_laws.seats_may_begin_a_call.Goals as goal

pub returns : goal.returns
returns c = record { law = may_begin }
