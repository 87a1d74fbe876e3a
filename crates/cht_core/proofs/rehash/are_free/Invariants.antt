use Rattle.std.proofs.Common.{◌≡◌, ◌<◌, ℕ, Some}
use Rattle.cht_core.specs.declared.seat.Seat.{Seat as SeatValue}
use Rattle.cht_core.specs.Rehash.{IsFree}
use Rattle.cht_core.specs.State.{seat_in}
use Rattle.cht_core.proofs.rehash.are_free.Given as goal

abbrev pub invariant-loop-seat : goal.invariant-loop-seat
invariant-loop-seat l = record { free : (k : ℕ) (s : SeatValue) → k < l.seat-index → seat_in l.seats k ≡ Some s → IsFree s }
