use Rattle.std.proofs.Common.{◌≡◌, ℕ, List, ◌+◌, ◌++◌, ◌≤◌, length}
use Rattle.schedule_sim.specs.Lines.{lines_of, told_from}
use Rattle.schedule_sim.specs.Script.{AreLines}
use Rattle.schedule_sim.proofs.parse.lines_of.Given as goal

-- the lines that were taken are those that were read, and the others are left
abbrev pub invariant-loop-bytes : goal.invariant-loop-bytes
invariant-loop-bytes l = record {
  room : l.lines.taken + length l.lines.rest.now ≤ l.initial.lines.taken + length l.initial.lines.rest.now;
  told : (before : List (ℕ × List ℕ))
      × (told_from (l.initial.lines.taken + 1) (lines_of l.initial.lines.rest.now) ≡ before ++ told_from (l.lines.taken + 1) (lines_of l.lines.rest.now))
      × AreLines l.kind before l.read.items;
}

abbrev pub decreases-loop-bytes : goal.decreases-loop-bytes
decreases-loop-bytes l = length l.lines.rest.now
