-- The greatest number of texts in one bucket of some that stand side by side.
use Rattle.std.specs.Prelude.{◌≡◌, ◌⊎◌, ℕ, ◌<◌, ◌≤◌, List}
use Rattle.intern_log.specs.Buckets.{in_bucket}

-- no bucket from `from` up to `end` has more texts, and one has as many, unless the number is 0
pub record IsLongestOf (level : ℕ) (texts : List (List ℕ)) (from end most : ℕ) : Type 0 where
  pub bounds : (bucket : ℕ) → from ≤ bucket → bucket < end → in_bucket 0 level texts bucket ≤ most
  pub reached : (most ≡ 0) ⊎ ((bucket : ℕ) × (in_bucket 0 level texts bucket ≡ most))
