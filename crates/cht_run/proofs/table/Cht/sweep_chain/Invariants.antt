use Rattle.std.proofs.Common.{◌≡◌}
use Rattle.call_machine.specs.Pass.{passes_on}
use Rattle.call_machine.specs.Sweep.{cleans_on}
use Rattle.cht_run.specs.SweepSteps.{sweeps_at, passes_in}
use Rattle.cht_run.specs.Underway.{IsAt}
use Rattle.cht_run.proofs.table.Cht.sweep_chain.Given as goal

abbrev pub invariant-loop : goal.invariant-loop
invariant-loop g l = record {
  within : passes_in l.asked l.along ≡ passes_in l.asked l.fn.along;
  at : IsAt l.fn.self g.M.Began.sight g.M.Began.call l.seat (sweeps_at l.asked l.along (cleans_on (passes_on l.next)));
}
