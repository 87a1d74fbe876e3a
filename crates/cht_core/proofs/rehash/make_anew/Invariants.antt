use Rattle.std.proofs.Common.{◌≡◌, ◌^◌}
use Rattle.cht_core.specs.Anew.{with_heads, with_slots}
use Rattle.cht_core.proofs.rehash.make_anew.Given as goal

abbrev pub invariant-loop-bucket : goal.invariant-loop-bucket
invariant-loop-bucket l = record { cleared : l.words ≡ with_heads l.shape l.level l.bucket l.fn.words }

abbrev pub invariant-loop-done : goal.invariant-loop-done
invariant-loop-done l = record { linked : l.words ≡ with_slots l.shape l.level l.seed l.done (with_heads l.shape l.level (2 ^ l.level) l.fn.words) }
