use Rattle.std.proofs.Common.{◌≡◌, ◌+◌, ◌≤◌, length}
use Rattle.schedule_sim.specs.Lines.{lines_of, told_from}
use Rattle.schedule_sim.proofs.told.Lines.next_told.Given as goal

abbrev pub invariant-loop-line : goal.invariant-loop-line
invariant-loop-line l = record {
  told : told_from (l.self.taken + 1) (lines_of l.self.rest.now) ≡ told_from (l.initial.self.taken + 1) (lines_of l.initial.self.rest.now);
  count : l.self.taken + length (lines_of l.self.rest.now) ≡ l.initial.self.taken + length (lines_of l.initial.self.rest.now);
  room : l.self.taken + length l.self.rest.now ≤ l.initial.self.taken + length l.initial.self.rest.now;
  shorter : length l.self.rest.now ≤ length l.initial.self.rest.now;
}

abbrev pub decreases-loop-line : goal.decreases-loop-line
decreases-loop-line l = length l.self.rest.now
