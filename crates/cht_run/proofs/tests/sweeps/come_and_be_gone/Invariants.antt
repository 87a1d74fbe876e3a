use Rattle.cht_run.specs.Ends.{HasNothing}
use Rattle.cht_run.specs.Seats.{IsOf}
use Rattle.cht_run.proofs.tests.sweeps.come_and_be_gone.Given as goal

abbrev pub invariant-loop-made : goal.invariant-loop-made
invariant-loop-made g l = record {
  of : IsOf l.cht l.seat;
  nothing : HasNothing l.seat;
}
