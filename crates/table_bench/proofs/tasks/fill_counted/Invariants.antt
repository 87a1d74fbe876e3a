use Rattle.cht_run.specs.Ends.{HasNothing}
use Rattle.cht_run.specs.Seats.{IsOf}
use Rattle.table_bench.proofs.tasks.fill_counted.Given as goal

abbrev pub invariant-loop-name : goal.invariant-loop-name
invariant-loop-name l = record {
  of : IsOf l.cht l.seat;
  nothing : HasNothing l.seat;
}
