use Rattle.cht_run.specs.Ends.{HasNothing}
use Rattle.cht_run.specs.Seats.{IsOf}
use Rattle.table_bench.proofs.crew.Given as goal

abbrev pub invariant-loop-list : goal.invariant-loop-list
invariant-loop-list l = record {
  of : IsOf l.cht l.seat;
  nothing : HasNothing l.seat;
}
