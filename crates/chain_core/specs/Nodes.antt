-- Which nodes stand on a list, and that none stands on it twice, by recursion on the list.
use Rattle.std.specs.Prelude.{◌≡◌, ℕ, List, [], ◌∷◌, ◌⊎◌}

-- the node stands on the list
abbrev pub On : ℕ → List ℕ → Type 0
On node [] = ⊥
On node (x ∷ xs) = (x ≡ node) ⊎ On node xs

-- no node stands on the list twice
abbrev pub Once : List ℕ → Type 0
Once [] = Unit {0}
Once (x ∷ xs) = (On x xs → ⊥) × Once xs
