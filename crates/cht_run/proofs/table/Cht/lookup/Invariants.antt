use Rattle.std.proofs.Common.{[]}
use Rattle.cht_run.specs.Ended.{Ended, Always, KeepsWork}
use Rattle.cht_run.specs.Retries.{AreOfTries}
use Rattle.cht_run.specs.Seats.{IsOf}
use Rattle.cht_run.proofs.table.Cht.lookup.Given as goal

abbrev pub invariant-loop : goal.invariant-loop
invariant-loop g l = record {
  of : IsOf l.self l.seat;
  works : KeepsWork l.fn.seat l.seat;
  before : Ended l.self.origin.table l.fn.seat l.seat (AreOfTries []) Always;
}
