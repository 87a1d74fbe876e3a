use Rattle.cht_run.specs.Ended.{Keeps}
use Rattle.cht_run.specs.Ends.{HasNothing}
use Rattle.cht_run.specs.Seats.{IsOf}
use Rattle.cht_run.proofs.tests.grows.make_names.Given as goal

abbrev pub invariant-loop-number : goal.invariant-loop-number
invariant-loop-number g l = record {
  of : IsOf l.cht l.seat;
  nothing : HasNothing l.seat;
  keeps : Keeps l.fn.seat l.seat;
}
