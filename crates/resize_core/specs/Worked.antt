-- A chain to unzip by hand: its links are those of chain_core's worked chain.
use Rattle.std.specs.Prelude.{ℕ, Bool, true, false, Some, None, List, [], ◌∷◌}
use Rattle.resize_core.specs.declared.moves.Heads.{Heads}
use Rattle.resize_core.specs.declared.moves.Move.{Move}
use Rattle.resize_core.specs.declared.moves.Place.TheVariants.{OddHead, Link}
use Rattle.resize_core.specs.Unzip.{marked_odd}

-- its nodes, of which 2 and 0 are odd, and both heads at first
abbrev pub worked_nodes : List ℕ
worked_nodes = 3 ∷ 2 ∷ 1 ∷ 0 ∷ []

abbrev pub worked_is_odd : ℕ → Bool
worked_is_odd node = marked_odd (true ∷ false ∷ true ∷ false ∷ []) node

abbrev pub worked_heads : Heads
worked_heads = record { even = Some 3; odd = Some 3 }

-- its moves
abbrev pub worked_moves : List Move
worked_moves =
    record { place = OddHead; to = Some 2 } ∷ record { place = Link 3; to = Some 1 } ∷ record { place = Link 2; to = Some 0 } ∷ record { place = Link 1; to = None } ∷ []
