use Rattle.std.proofs.Common.{◌<◌, ℕ, IsTrue, slice_index}
use Rattle.name_scan.specs.Pieces.{is_name_byte}
use Rattle.name_scan.proofs.run_len.Given as goal

-- the bytes that have gone by are name bytes
abbrev pub invariant-loop-place : goal.invariant-loop-place
invariant-loop-place l = (k : ℕ) → k < l.place → IsTrue (is_name_byte (slice_index l.bytes k))
