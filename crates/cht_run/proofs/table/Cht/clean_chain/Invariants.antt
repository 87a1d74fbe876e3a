use Rattle.std.proofs.Common.{◌≡◌}
use Rattle.call_machine.specs.Clean.{goes, cleans_on}
use Rattle.call_machine.specs.Pass.{passes_on}
use Rattle.cht_core.specs.PollMeasure.{poll_left}
use Rattle.cht_run.specs.Cleans.{cleaned, passes_in}
use Rattle.cht_run.specs.Runs.{IsPolling}
use Rattle.cht_run.specs.Underway.{IsAt, HasNoMore}
use Rattle.cht_run.proofs.table.Cht.clean_chain.Given as goal

abbrev pub invariant-loop-next : goal.invariant-loop-next
invariant-loop-next g l = record {
  within : passes_in g.M.Began.sight l.along ≡ passes_in g.M.Began.sight l.fn.along;
  at : IsAt l.fn.self g.M.Began.sight g.M.Began.call l.seat (cleaned g.M.Began.sight (goes l.along (cleans_on (passes_on l.next))));
  no_more : HasNoMore l.fn.self.origin.table.shape (cleaned g.M.Began.sight (goes l.fn.along (cleans_on (passes_on l.fn.first)))) (cleaned g.M.Began.sight (goes l.along (cleans_on (passes_on l.next))));
  polls : IsPolling l.fn.self.origin.table.shape (cleaned g.M.Began.sight (goes l.along (cleans_on (passes_on l.next))));
}

abbrev pub decreases-loop-next : goal.decreases-loop-next
decreases-loop-next g l = poll_left l.fn.self.origin.table.shape (cleaned g.M.Began.sight (goes l.along (cleans_on (passes_on l.next))))
