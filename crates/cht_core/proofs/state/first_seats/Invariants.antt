use Rattle.std.proofs.Common.{◌≡◌, ℕ, ◌+◌, ◌∷◌, Some, None}
use Rattle.std.specs.Prelude.{replicate}
use Rattle.cht_core.specs.declared.seat.Seat.TheVariants as doing
use Rattle.cht_core.specs.Begins.{first_own}
use Rattle.cht_core.proofs.state.first_seats.Given as goal

abbrev pub invariant-loop : goal.invariant-loop
invariant-loop l = record {
  made : (n : ℕ) × (l.counter ≡ n + 1) × (l.seats.items ≡ Some (doing.Idle (first_own l.shape 0)) ∷ replicate n None);
}
