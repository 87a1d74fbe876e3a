use Rattle.std.proofs.Common.{◌≡◌, ◌<◌, ℕ, false}
use Rattle.cht_core.specs.Anew.{is_dead_in}
use Rattle.cht_core.proofs.rehash.has_dead.Given as goal

abbrev pub invariant-loop-slot : goal.invariant-loop-slot
invariant-loop-slot l = record { alive : (slot : ℕ) → slot < l.slot → is_dead_in l.shape l.words l.log slot ≡ false }
