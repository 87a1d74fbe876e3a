use Rattle.cht_core.specs.PollMeasure.{poll_left}
use Rattle.cht_run.specs.Cleans.{cleaned, comes_to}
use Rattle.cht_run.specs.Runs.{IsPolling}
use Rattle.cht_run.specs.Underway.{IsAt}
use Rattle.cht_run.proofs.table.Cht.clean_on.Given as goal

abbrev pub invariant-loop-next : goal.invariant-loop-next
invariant-loop-next g l = record {
  at : IsAt l.fn.self g.M.Began.sight g.M.Began.call l.seat (cleaned g.M.Began.sight (comes_to l.clean.along l.next));
  polls : IsPolling l.fn.self.origin.table.shape (cleaned g.M.Began.sight (comes_to l.clean.along l.next));
}

abbrev pub decreases-loop-next : goal.decreases-loop-next
decreases-loop-next g l = poll_left l.fn.self.origin.table.shape (cleaned g.M.Began.sight (comes_to l.clean.along l.next))
