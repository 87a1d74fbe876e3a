use Rattle.std.proofs.Common.{◌≡◌}
use Rattle.call_machine.specs.declared.grace.GraceStage.TheVariants.{LoadSection}
use Rattle.call_machine.specs.declared.sweep.SweepStage.TheVariants as stage
use Rattle.cht_run.specs.SweepSteps.{sweeps_at, scans_in}
use Rattle.cht_run.specs.Underway.{IsAt}
use Rattle.cht_run.proofs.table.Cht.wait_swept.Given as goal

abbrev pub invariant-loop : goal.invariant-loop
invariant-loop g l = record {
  within : scans_in l.asked l.along ≡ scans_in l.asked l.fn.along;
  at : IsAt l.fn.self g.M.Began.sight g.M.Began.call l.seat (sweeps_at l.asked l.along (stage.Grace LoadSection));
}
