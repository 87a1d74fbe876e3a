use Rattle.std.proofs.Common.{◌≤◌, ◌*◌}
use Rattle.cht_run.specs.Ended.{Keeps}
use Rattle.cht_run.specs.Ends.{HasNothing}
use Rattle.cht_run.specs.Seats.{IsOf}
use Rattle.cht_run.proofs.tests.logs.come_and_go.Given as goal

abbrev pub invariant-loop : goal.invariant-loop
invariant-loop g l = record {
  of : IsOf l.cht l.worker.seat;
  nothing : HasNothing l.worker.seat;
  keeps : Keeps l.fn.worker.seat l.worker.seat;
  times : l.worker.times ≤ 2 * l.counter;
}
