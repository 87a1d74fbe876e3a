use Rattle.cht_run.specs.Ends.{HasNothing}
use Rattle.cht_run.specs.Seats.{IsOf}
use Rattle.table_bench.proofs.tasks.passes.Given as goal

abbrev pub invariant-loop-pass : goal.invariant-loop-pass
invariant-loop-pass l = record {
  of : IsOf l.cht l.seat;
  nothing : HasNothing l.seat;
}
