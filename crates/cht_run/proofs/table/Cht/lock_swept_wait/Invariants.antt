use Rattle.call_machine.specs.Sweep.{finds_anew}
use Rattle.cht_run.specs.SweepSteps.{sweeps_at}
use Rattle.cht_run.specs.Underway.{IsAt}
use Rattle.cht_run.proofs.table.Cht.lock_swept_wait.Given as goal

abbrev pub invariant-loop : goal.invariant-loop
invariant-loop g l = IsAt l.fn.self g.M.Began.sight g.M.Began.call l.seat (sweeps_at l.asked l.along finds_anew)
