-- Joining an even and an odd chain into one.
use Rattle.std.specs.Prelude.{ℕ, List, Contains}
use Rattle.resize_core.specs.declared.moves.Heads.{Heads}
use Rattle.resize_core.specs.declared.moves.Move.{Move}
use Rattle.resize_core.specs.declared.moves.Place.TheVariants.{EvenHead}
use Rattle.resize_core.specs.Moves.{end_of}

-- the move that puts the odd chain after the even one of these nodes
abbrev pub joining : Heads → List ℕ → Move
joining heads even = record { place = end_of EvenHead even; to = heads.odd }

-- no node is on both
abbrev pub ShareNone : List ℕ → List ℕ → Type 0
ShareNone even odd = (node : ℕ) → Contains even node → ¬ (Contains odd node)
