-- Unzipping a chain into an even and an odd one.
use Rattle.std.specs.Prelude.{ℕ, Bool, false, Option, List, [], ◌∷◌, ◌++◌, filter, not, take, drop, slice_index_or, if◌then◌else◌}
use Rattle.chain_core.specs.Path.{IsPath, IsPathIn}
use Rattle.resize_core.specs.declared.moves.Heads.{Heads}
use Rattle.resize_core.specs.declared.moves.Move.{Move}
use Rattle.resize_core.specs.declared.moves.Place.{Place}
use Rattle.resize_core.specs.declared.moves.Place.TheVariants.{EvenHead, OddHead, Link}
use Rattle.resize_core.specs.Moves.{Split, end_of, links_after_all, heads_after_all}

-- whether a node is odd, by a list of marks
abbrev pub marked_odd : List Bool → ℕ → Bool
marked_odd odd node = slice_index_or odd node false

-- at an odd node it is the even side that is led past it, and at an even node the odd side
abbrev pub place_past : Bool → Place → Place → Place
place_past is_odd even odd = if is_odd then even else odd

-- where each side ends after a node: the node is the last one of its own side
abbrev pub even_end : Bool → Place → ℕ → Place
even_end is_odd even node = if is_odd then even else Link node

abbrev pub odd_end : Bool → Place → ℕ → Place
odd_end is_odd odd node = if is_odd then Link node else odd

-- the moves at these nodes, where the even and the odd side end at these places before them
abbrev pub moves_of : (ℕ → Option ℕ) → (ℕ → Bool) → Place → Place → List ℕ → List Move
moves_of next is_odd even odd [] = []
moves_of next is_odd even odd (node ∷ nodes) =
    record { place = place_past (is_odd node) even odd; to = next node } ∷ moves_of next is_odd (even_end (is_odd node) even node) (odd_end (is_odd node) odd node) nodes

-- the move at a node after these nodes were passed: the other side is led past it by the link of its last own node, or by its head
abbrev pub move_past : (ℕ → Option ℕ) → (ℕ → Bool) → List ℕ → ℕ → Move
move_past next is_odd passed node = record {
  place = place_past (is_odd node) (end_of EvenHead (filter (λ other. not (is_odd other)) passed)) (end_of OddHead (filter is_odd passed));
  to = next node;
}

-- one side after so many moves: those of its own among as many nodes, and then all that come after them
abbrev pub side_after : (ℕ → Bool) → ℕ → List ℕ → List ℕ
side_after belongs k nodes = filter belongs (take k nodes) ++ drop k nodes

-- what each head leads to after the first k moves at these nodes
pub record HasSides (LeadsTo : Option ℕ → List ℕ → Type 0) (heads : Heads) (is_odd : ℕ → Bool) (nodes : List ℕ) (k : ℕ) : Type 0 where
  pub even : LeadsTo heads.even (side_after (λ node. not (is_odd node)) k nodes)
  pub odd : LeadsTo heads.odd (side_after is_odd k nodes)

-- the even and the odd path are those after the first k moves
abbrev pub IsSplit : Split → (ℕ → Bool) → List ℕ → ℕ → Type 0
IsSplit split is_odd nodes k = HasSides (IsPath split.next) split.heads is_odd nodes k

-- after the first k moves, made in a list of links where both heads lead to `first`, the even and the odd path are these
abbrev pub IsUnzipped : List (Option ℕ) → Option ℕ → (ℕ → Bool) → List ℕ → List Move → ℕ → Type 0
IsUnzipped links first is_odd nodes moves k =
    HasSides (IsPathIn (links_after_all links (take k moves))) (heads_after_all (record { even = first; odd = first }) (take k moves)) is_odd nodes k
