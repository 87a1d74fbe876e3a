-- A chain to work out by hand.
use Rattle.std.specs.Prelude.{ℕ, Option, Some, None, List, [], ◌∷◌}

-- the links of the chain 3, 2, 1, 0
abbrev pub worked_links : List (Option ℕ)
worked_links = None ∷ Some 0 ∷ Some 1 ∷ Some 2 ∷ []
