-- Open sections, and what a grace waits for.
use Rattle.std.specs.Prelude.{◌≡◌, ◌<◌, ◌+◌, ◌*◌, ◌++◌, ℕ, zero, suc, Bool, true, false, Option, Some, None, List, [], ◌∷◌, length, map, is_some, nat_le, slice_get, slice_index_or}

-- what there is to see of the sections of a number of seats
pub record SectionState : Type 0 where
  -- the counter before the first grace
  pub first : ℕ
  -- of each seat, whether its section is open
  pub inside : List Bool
  -- of each grace, in the order in which they were begun, and of each seat, whether the grace waits for its section
  pub graces : List (List Bool)

-- the counter: each grace raised it by 2
abbrev pub counter_of : SectionState → ℕ
counter_of state = state.first + 2 * length state.graces

-- the grace waits for the section of the seat
abbrev pub Waits : SectionState → ℕ → ℕ → Type 0
Waits state grace seat = slice_get (slice_index_or state.graces grace []) seat ≡ Some true

-- the grace waits for no section
abbrev pub IsOver : SectionState → ℕ → Type 0
IsOver state grace = (seat : ℕ) → ¬ (Waits state grace seat)

-- the lowest seat for whose section the grace waits
pub record IsLowest (state : SectionState) (grace seat : ℕ) : Type 0 where
  pub waits : Waits state grace seat
  pub lowest : (lower : ℕ) → lower < seat → ¬ (Waits state grace lower)

-- whether a section that was entered after so many graces, if it is open, was open when the grace of this number began
abbrev pub was_inside : ℕ → Option ℕ → Bool
was_inside number None = false
was_inside number (Some before) = nat_le before number

-- what the first graces wait for, where each seat has what its section remembers
abbrev pub graces_of : ℕ → List (Option ℕ) → List (List Bool)
graces_of zero entered = []
graces_of (suc number) entered = graces_of number entered ++ map (was_inside number) entered ∷ []

-- what there is to see, by the counter before the first grace, the number of graces and what the sections remember
abbrev pub state_of : ℕ → ℕ → List (Option ℕ) → SectionState
state_of first begun entered = record { first = first; inside = map is_some entered; graces = graces_of begun entered }
