use Rattle.cht_core.specs.PollMeasure.{poll_left}
use Rattle.cht_run.specs.Resizes.{resized, went_on, Pends}
use Rattle.cht_run.specs.Underway.{IsAt}
use Rattle.cht_run.proofs.table.Cht.resize_on.Given as goal

abbrev pub invariant-loop-went : goal.invariant-loop-went
invariant-loop-went g l = record {
  at : IsAt l.fn.self g.M.Began.sight g.M.Began.call l.seat (resized g.M.Began.sight l.direction (went_on l.along l.went));
  pends : Pends l.along l.went;
}

abbrev pub decreases-loop-went : goal.decreases-loop-went
decreases-loop-went g l = poll_left l.fn.self.origin.table.shape (resized g.M.Began.sight l.direction (went_on l.along l.went))
