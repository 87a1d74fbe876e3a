use Rattle.cht_run.specs.Ended.{Keeps, KeepsWork}
use Rattle.cht_run.specs.Seats.{IsOf}
use Rattle.cht_run.proofs.tests.calls.intern.Given as goal

abbrev pub invariant-loop : goal.invariant-loop
invariant-loop l = record {
  of : IsOf l.cht l.seat;
  keeps : Keeps l.fn.seat l.seat;
  works : KeepsWork l.fn.seat l.seat;
}
