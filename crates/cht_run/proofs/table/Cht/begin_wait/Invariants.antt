use Rattle.std.proofs.Common.{[]}
use Rattle.cht_run.specs.Ended.{Ended, Always, KeepsFields, Only}
use Rattle.cht_run.specs.Ends.{HasNothing}
use Rattle.cht_run.specs.Seats.{IsOf}
use Rattle.cht_run.proofs.table.Cht.begin_wait.Given as goal

abbrev pub invariant-loop : goal.invariant-loop
invariant-loop g l = record {
  of : IsOf l.self l.seat;
  fields : KeepsFields l.fn.seat l.seat;
  nothing : HasNothing l.seat;
  waited : Ended l.self.origin.table l.fn.seat l.seat (Only []) Always;
}
