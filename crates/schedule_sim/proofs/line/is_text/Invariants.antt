use Rattle.std.proofs.Common.{◌≤◌, ℕ, ◌<◌, slice_index}
use Rattle.schedule_sim.proofs.line.is_text.Given as goal

-- the bytes that have gone by may stand in a text
abbrev pub invariant-loop-byte : goal.invariant-loop-byte
invariant-loop-byte l = (k : ℕ) → k < l.byte-index → (33 ≤ slice_index l.bytes k) × (slice_index l.bytes k ≤ 126)
