-- What the seats of a counted table hold together.
use Rattle.std.specs.Prelude.{◌≡◌, ℕ, zero, suc, ◌+◌, ◌<◌, List, Some}
use Rattle.intern_log.specs.declared.event.Entry.{Entry}
use Rattle.intern_log.specs.declared.event.Handle.{Handle}
use Rattle.intern_log.specs.TextMap.{TextMap, entry_of, IsLive}

-- the sum of a function over the numbers below a bound
abbrev pub sum_below : ℕ → (ℕ → ℕ) → ℕ
sum_below zero value = 0
sum_below (suc k) value = sum_below k value + value k

-- a count below 65,535 is what all seats hold, and a handle that is not live is held by nobody
pub record Balanced (seats : ℕ) (texts : TextMap) (holds : ℕ → Handle → ℕ) : Type 0 where
  pub live : (text : List ℕ) (e : Entry) → entry_of texts text ≡ Some e → e.count < 65535 → sum_below seats (λ k. holds k e.handle) ≡ e.count
  pub gone : (h : Handle) → ¬ (IsLive texts h) → sum_below seats (λ k. holds k h) ≡ 0
