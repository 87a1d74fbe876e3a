use Rattle.std.proofs.Common.{◌≡◌, ℕ, ◌<◌, ◌+◌, length, take, slice_index_or}
use Rattle.intern_log.specs.Buckets.{in_bucket}
use Rattle.plain_interner.proofs.numbers.count_texts.Given as goal

abbrev pub invariant-loop-name : goal.invariant-loop-name
invariant-loop-name l = record {
  len : length l.counters ≡ length l.fn.counters;
  counted : (k : ℕ) → k < length l.fn.counters → slice_index_or l.counters k 0 ≡ in_bucket 0 l.level (take l.name-index l.names) (l.from + k);
}
