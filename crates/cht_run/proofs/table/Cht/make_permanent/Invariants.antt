use Rattle.std.proofs.Common.{[]}
use Rattle.cht_core.specs.Begins.{IsHeld}
use Rattle.cht_run.specs.Ended.{Ended, Always, KeepsFields, KeepsWork, Only}
use Rattle.cht_run.specs.Seats.{seen, numbers, IsOf}
use Rattle.cht_run.proofs.table.Cht.make_permanent.Given as goal

abbrev pub invariant-loop : goal.invariant-loop
invariant-loop g l = record {
  of : IsOf l.self l.seat;
  works : KeepsWork l.fn.seat l.seat;
  fields : KeepsFields l.fn.seat l.seat;
  before : Ended l.self.origin.table l.fn.seat l.seat (Only []) Always;
  held : IsHeld (seen l.seat) (numbers l.seat) l.handle;
}
