use Rattle.cht_run.specs.Ended.{Keeps}
use Rattle.cht_run.specs.Ends.{HasNothing}
use Rattle.cht_run.specs.Seats.{IsOf}
use Rattle.cht_run.proofs.tests.grows.grow_often.Given as goal

abbrev pub invariant-loop-times : goal.invariant-loop-times
invariant-loop-times g l = record {
  of : IsOf l.cht l.seat;
  nothing : HasNothing l.seat;
  keeps : Keeps l.fn.seat l.seat;
}
