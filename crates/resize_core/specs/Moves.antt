-- What a move changes.
use Rattle.std.specs.Prelude.{◌<◌, ℕ, Option, List, [], ◌∷◌, fold, slice_set}
use Rattle.chain_core.specs.Path.{next_in, next_with}
use Rattle.resize_core.specs.declared.moves.Heads.{Heads}
use Rattle.resize_core.specs.declared.moves.Move.{Move}
use Rattle.resize_core.specs.declared.moves.Place.{Place}
use Rattle.resize_core.specs.declared.moves.Place.TheVariants.{EvenHead, OddHead, Link}

-- where there are so many links, the place is one of them, or a head
abbrev pub IsPlaceIn : ℕ → Place → Type 0
IsPlaceIn links (Link node) = node < links
IsPlaceIn links head = Unit {0}

-- where the link is that leads out of these nodes: at the last of them, or at the head where there is none
abbrev pub end_of : Place → List ℕ → Place
end_of head [] = head
end_of head (node ∷ nodes) = end_of (Link node) nodes

-- the links after a move
abbrev pub links_at : List (Option ℕ) → Place → Option ℕ → List (Option ℕ)
links_at links (Link node) to = slice_set links node to
links_at links head to = links

abbrev pub links_after : List (Option ℕ) → Move → List (Option ℕ)
links_after links step = links_at links step.place step.to

-- the heads after a move
abbrev pub heads_at : Heads → Place → Option ℕ → Heads
heads_at heads EvenHead to = record heads { even = to }
heads_at heads OddHead to = record heads { odd = to }
heads_at heads (Link node) to = heads

abbrev pub heads_after : Heads → Move → Heads
heads_after heads step = heads_at heads step.place step.to

-- after moves, one after the other
abbrev pub links_after_all : List (Option ℕ) → List Move → List (Option ℕ)
links_after_all links moves = fold links_after links moves

abbrev pub heads_after_all : Heads → List Move → Heads
heads_after_all heads moves = fold heads_after heads moves

-- an even and an odd chain: their heads, and the function that gives the next node of each node
pub record Split : Type 0 where
  pub heads : Heads
  pub next : ℕ → Option ℕ

-- the two chains by a list of links
abbrev pub split_in : List (Option ℕ) → Heads → Split
split_in links heads = record { heads = heads; next = next_in links }

-- the next nodes after a move
abbrev pub next_at : (ℕ → Option ℕ) → Place → Option ℕ → ℕ → Option ℕ
next_at next (Link node) to = next_with next node to
next_at next head to = next

-- the two chains after a move, and after moves one after the other
abbrev pub after_move : Split → Move → Split
after_move split step = record { heads = heads_after split.heads step; next = next_at split.next step.place step.to }

abbrev pub after_moves : Split → List Move → Split
after_moves split moves = fold after_move split moves
