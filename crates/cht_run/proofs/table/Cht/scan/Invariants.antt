use Rattle.std.proofs.Common.{◌-◌}
use Rattle.call_machine.specs.declared.grace.Gracing.TheVariants as gracing
use Rattle.cht_run.specs.Underway.{IsAt, HasNoMore}
use Rattle.cht_run.proofs.table.Cht.scan.Given as goal

abbrev pub invariant-loop : goal.invariant-loop
invariant-loop g l = record {
  at : IsAt l.fn.self g.M.Began.sight g.M.Began.call l.seat (g.W.Scanning.scans l.grace gracing.Goes);
  no_more : HasNoMore l.fn.self.origin.table.shape (g.W.Scanning.scans l.fn.grace gracing.Goes) (g.W.Scanning.scans l.grace gracing.Goes);
}

abbrev pub decreases-loop : goal.decreases-loop
decreases-loop g l = l.fn.self.origin.table.shape.seats - l.grace.next
