use Rattle.std.proofs.Common.{◌≢◌, ℕ, ◌<◌, slice_index}
use Rattle.schedule_sim.proofs.cut.cut_at.Given as goal

-- no byte that has gone by is of the value
abbrev pub invariant-loop-place : goal.invariant-loop-place
invariant-loop-place l = (k : ℕ) → k < l.place → slice_index l.bytes k ≢ l.mark
