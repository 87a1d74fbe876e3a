-- The move that joins two chains.
use Rattle.std.proofs.Common.{◌≡◌, ◌<◌, ◌-◌, ℕ, suc, List, [], ◌∷◌, ◌++◌, ⊎_elim, length, Option, Some, sym, ap, subst, ◌∙◌}
use Rattle.std.specs.List.{All, slice_get}
use Rattle.std.proofs.lemmas.List.Elements.{All-nil, All-cons, All-append}
use native.Mathlib.Omega.{arith}
use Rattle.chain_core.specs.Path.{IsPathIn, next_in}
use Rattle.chain_core.specs.Nodes.{On}
use Rattle.chain_core.proofs.Members.{on_all}
use Rattle.resize_core.specs.declared.moves.Heads.{Heads}
use Rattle.resize_core.specs.declared.moves.Move.{Move}
use Rattle.resize_core.specs.declared.moves.Place.{Place}
use Rattle.resize_core.specs.declared.moves.Place.TheVariants.{EvenHead, Link}
use Rattle.resize_core.specs.Moves.{IsPlaceIn, split_in, end_of, links_at, links_after, heads_at, heads_after, next_at}
use Rattle.resize_core.specs.Join.{joining, ShareNone}
use Rattle.resize_core.proofs.Ends.{end_cases, on_last}
use Rattle.resize_core.proofs.Steps.{joined_paths}
use Rattle.resize_core.proofs.Places.{next_in-at, length-links_at, path_in_after}

-- the last node of a path has a link
last_within : (links : List (Option ℕ)) (first : Option ℕ) (nodes front : List ℕ) (last : ℕ) → IsPathIn links first nodes → nodes ≡ front ++ last ∷ [] → last < length links
last_within links first nodes front last is same = on_all (λ n. n < length links) nodes last is.inside (subst (On last) (sym same) (on_last front last))

end_in : (links : List (Option ℕ)) (first : Option ℕ) (even : List ℕ) → IsPathIn links first even → IsPlaceIn (length links) (end_of EvenHead even)
end_in links first even low = ⊎_elim
    (λ none. subst (IsPlaceIn (length links)) (sym none.1) tt)
    (λ some. subst (IsPlaceIn (length links)) (sym some.3) (last_within links first even some.0 some.1 low some.2))
    (end_cases EvenHead even)

-- what the move leaves of the even and of the odd path
pub joined : (links : List (Option ℕ)) (heads : Heads) (even odd : List ℕ) → IsPathIn links heads.even even → IsPathIn links heads.odd odd → ShareNone even odd →
    IsPathIn (links_after links (joining heads even)) (heads_after heads (joining heads even)).even (even ++ odd) × IsPathIn (links_after links (joining heads even)) (heads_after heads (joining heads even)).odd odd
joined links heads even odd low high apart =
    let place = end_of EvenHead even in
    let new = links_at links place heads.odd in
    let same = next_in-at links place heads.odd (end_in links heads.even even low) in
    let size = length-links_at links place heads.odd in
    let both = joined_paths (split_in links heads) even odd low.path high.path apart in (
      path_in_after links new (next_at (next_in links) place heads.odd) (heads_at heads place heads.odd).even (even ++ odd) same size both.0 (All-append (λ n. n < length links) even odd low.inside high.inside),
      path_in_after links new (next_at (next_in links) place heads.odd) (heads_at heads place heads.odd).odd odd same size both.1 high.inside,
    )

-- the move stores at the even head or at a link that is there
pub joining_in : (links : List (Option ℕ)) (heads : Heads) (even : List ℕ) → IsPathIn links heads.even even → All (λ (step : Move). IsPlaceIn (length links) step.place) (joining heads even ∷ [])
joining_in links heads even low = All-cons (λ (step : Move). IsPlaceIn (length links) step.place) (joining heads even) [] (end_in links heads.even even low) (All-nil (λ (step : Move). IsPlaceIn (length links) step.place))

-- what the end of a list of nodes is, by its last one
pub end_of-some : (head : Place) (nodes : List ℕ) (last : ℕ) → slice_get nodes (length nodes - 1) ≡ Some last → end_of head nodes ≡ Link last
end_of-some head [] last some = absurd (cc)
end_of-some head (x ∷ []) last some = let same : x ≡ last = cc in ap Link same
end_of-some head (x ∷ y ∷ nodes) last some =
    let back : length (x ∷ y ∷ nodes) - 1 ≡ suc (length (y ∷ nodes) - 1) = omega arith in
    end_of-some (Link x) (y ∷ nodes) last (ap (λ n. slice_get (x ∷ y ∷ nodes) n) (sym back) ∙ some)

-- a list of moves to which one is added
pub one_more : (old new : List Move) (place end : Place) (to : Option ℕ) → new ≡ old ++ record { place = place; to = to } ∷ [] → old ≡ [] → place ≡ end → new ≡ record { place = end; to = to } ∷ []
one_more old new place end to added none is =
    subst (λ (p : Place). new ≡ record { place = p; to = to } ∷ []) is (subst (λ (l : List Move). new ≡ l ++ record { place = place; to = to } ∷ []) none added)
