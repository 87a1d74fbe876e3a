use Rattle.std.proofs.Common.{◌≡◌, ◌-◌}
use Rattle.call_machine.specs.Node.{comes_to}
use Rattle.call_machine.specs.Sought.{asked_of}
use Rattle.cht_run.specs.Calls.{At}
use Rattle.cht_run.proofs.table.Cht.walk.Given as goal

abbrev pub invariant-loop-next : goal.invariant-loop-next
invariant-loop-next g l = record {
  at : At l.fn.self g.M.Began.sight g.M.Began.call l.request l.seat l.along (comes_to (asked_of l.request) l.along l.along.walk.head l.next);
  kept : l.along.kept ≡ l.fn.along.kept;
}

abbrev pub decreases-loop-next : goal.decreases-loop-next
decreases-loop-next g l = l.fn.self.origin.table.shape.slots - l.along.walk.passed
