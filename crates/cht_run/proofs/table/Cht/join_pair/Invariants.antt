use Rattle.call_machine.specs.declared.resize.JoinStage.TheVariants as join
use Rattle.call_machine.specs.declared.resize.ResizeStage.TheVariants as stage
use Rattle.call_machine.specs.Resize.{goes}
use Rattle.cht_core.specs.PollMeasure.{poll_left}
use Rattle.cht_run.specs.Resizes.{resized}
use Rattle.cht_run.specs.Underway.{Onward}
use Rattle.cht_run.proofs.table.Cht.join_pair.Given as goal

abbrev pub invariant-loop-next : goal.invariant-loop-next
invariant-loop-next g l =
    Onward l.fn.self g.M.Began.sight g.M.Began.call l.seat (resized g.M.Began.sight l.direction (goes l.fn.along (stage.Join (join.LoadLink l.first)))) (resized g.M.Began.sight l.direction (goes l.along (stage.Join (join.LoadLink l.last))))

abbrev pub decreases-loop-next : goal.decreases-loop-next
decreases-loop-next g l = poll_left l.fn.self.origin.table.shape (resized g.M.Began.sight l.direction (goes l.along (stage.Join (join.LoadLink l.last))))
