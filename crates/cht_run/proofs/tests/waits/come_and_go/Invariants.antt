use Rattle.std.proofs.Common.{◌≡◌}
use Rattle.cht_run.specs.Ends.{HasNothing}
use Rattle.cht_run.specs.Seats.{numbers, kids, IsOf}
use Rattle.cht_run.proofs.tests.waits.come_and_go.Given as goal

abbrev pub invariant-loop-times : goal.invariant-loop-times
invariant-loop-times g l = record {
  of : IsOf l.cht l.seat;
  nothing : HasNothing l.seat;
  number : l.seat.number ≡ l.fn.seat.number;
  numbers : numbers l.seat ≡ numbers l.fn.seat;
  kids : kids l.seat ≡ kids l.fn.seat;
}
