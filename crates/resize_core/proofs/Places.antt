-- Moves in a list of links, and in the function that it gives.
use Rattle.std.proofs.Common.{◌≡◌, ◌<◌, ℕ, List, [], ◌∷◌, length, Option, refl, sym, ap, subst, ◌∙◌}
use Rattle.std.specs.List.{All}
use Rattle.std.proofs.lemmas.List.{length-set}
use Rattle.std.proofs.lemmas.List.Elements.{All-head, All-tail}
use Rattle.chain_core.specs.Path.{IsPath, IsPathIn, next_in}
use Rattle.chain_core.proofs.Links.{next_in-set}
use Rattle.resize_core.specs.declared.moves.Heads.{Heads}
use Rattle.resize_core.specs.declared.moves.Move.{Move}
use Rattle.resize_core.specs.declared.moves.Place.{Place}
use Rattle.resize_core.specs.declared.moves.Place.TheVariants.{EvenHead, OddHead, Link}
use Rattle.resize_core.specs.Moves.{IsPlaceIn, Split, split_in, links_at, links_after, links_after_all, heads_after, heads_after_all, next_at, after_move, after_moves}

pub next_in-at : (links : List (Option ℕ)) (place : Place) (to : Option ℕ) → IsPlaceIn (length links) place → next_in (links_at links place to) ≡ next_at (next_in links) place to
next_in-at links EvenHead to inside = refl
next_in-at links OddHead to inside = refl
next_in-at links (Link node) to inside = next_in-set links node to inside

pub length-links_at : (links : List (Option ℕ)) (place : Place) (to : Option ℕ) → length (links_at links place to) ≡ length links
length-links_at links EvenHead to = refl
length-links_at links OddHead to = refl
length-links_at links (Link node) to = length-set links node to

-- a move of links is that of their function
pub split_in-after : (links : List (Option ℕ)) (heads : Heads) (step : Move) → IsPlaceIn (length links) step.place → split_in (links_after links step) (heads_after heads step) ≡ after_move (split_in links heads) step
split_in-after links heads step inside = ap (λ (next : ℕ → Option ℕ). let split : Split = record { heads = heads_after heads step; next = next } in split) (next_in-at links step.place step.to inside)

-- and so are moves one after the other
pub split_in-after_all : (moves : List Move) (links : List (Option ℕ)) (heads : Heads) → All (λ (step : Move). IsPlaceIn (length links) step.place) moves →
    split_in (links_after_all links moves) (heads_after_all heads moves) ≡ after_moves (split_in links heads) moves
split_in-after_all [] links heads inside = refl
split_in-after_all (step ∷ moves) links heads inside =
    let size = length-links_at links step.place step.to in
    let later = All-tail (λ (other : Move). IsPlaceIn (length links) other.place) step moves inside in
    split_in-after_all moves (links_after links step) (heads_after heads step) (subst (λ n. All (λ (other : Move). IsPlaceIn n other.place) moves) (sym size) later)
    ∙ ap (λ (split : Split). after_moves split moves) (split_in-after links heads step (All-head (λ (other : Move). IsPlaceIn (length links) other.place) step moves inside))

pub length-links_after_all : (moves : List Move) (links : List (Option ℕ)) → length (links_after_all links moves) ≡ length links
length-links_after_all [] links = refl
length-links_after_all (step ∷ moves) links = length-links_after_all moves (links_after links step) ∙ length-links_at links step.place step.to

-- a path of the function is one of the links, where each of its nodes has one
pub path_in_after : (links new : List (Option ℕ)) (next : ℕ → Option ℕ) (head : Option ℕ) (nodes : List ℕ) → next_in new ≡ next → length new ≡ length links → IsPath next head nodes → All (λ node. node < length links) nodes → IsPathIn new head nodes
path_in_after links new next head nodes same size path inside = record {
  path = subst (λ n. IsPath n head nodes) (sym same) path;
  inside = subst (λ n. All (λ node. node < n) nodes) (sym size) inside;
}
