-- A chain that is being unzipped, move by move.
use Rattle.std.proofs.Common.{◌≡◌, ◌<◌, ℕ, zero, suc, List, [], ◌∷◌, ◌++◌, ⊎_elim, length, take, drop, get_or, Bool, true, false, not, Option, Some, None, refl, sym, ap, subst, ◌∙◌, append_assoc}
use native.Mathlib.Omega.{arith}
use Rattle.std.specs.List.{All, filter, slice_get}
use Rattle.std.proofs.Math.Seq.{take-suc}
use Rattle.std.proofs.lemmas.Bool.{not_from_true, not_from_false, cases_Bool, cases_lt}
use Rattle.std.proofs.lemmas.List.{append-nil, take_all, take-append-drop}
use Rattle.std.proofs.lemmas.List.Elements.{All-nil, All-cons, All-head, All-tail, All-take, All-drop, All-filter, All-append}
use Rattle.std.proofs.lemmas.List.Sums.{fold_push}
use Rattle.std.proofs.lemmas.Option.{slice_get-get_or, slice_get_within, get_or_from_slice_get}
use Rattle.chain_core.specs.Path.{IsPath, IsPathIn, next_in}
use Rattle.resize_core.specs.declared.moves.Heads.{Heads}
use Rattle.resize_core.specs.declared.moves.Move.{Move}
use Rattle.resize_core.specs.declared.moves.Place.{Place}
use Rattle.resize_core.specs.declared.moves.Place.TheVariants.{EvenHead, OddHead, Link}
use Rattle.resize_core.specs.Moves.{IsPlaceIn, Split, end_of, links_after_all, heads_after_all, after_move, after_moves}
use Rattle.resize_core.specs.Unzip.{moves_of, move_past, place_past, even_end, odd_end, side_after, IsSplit, IsUnzipped}
use Rattle.resize_core.proofs.Ends.{end_of-push, leads_to_node, begins}
use Rattle.resize_core.proofs.Sides.{drop_from, filter_mine, filter_other, side_whole}
use Rattle.resize_core.proofs.Steps.{one_move}
use Rattle.resize_core.proofs.Places.{split_in-after_all, length-links_after_all, path_in_after}

-- where a side ends after one more node, which is its own or not
end_mine : (top : Place) (belongs : ℕ → Bool) (passed : List ℕ) (node : ℕ) → belongs node ≡ true → Link node ≡ end_of top (filter belongs (passed ++ node ∷ []))
end_mine top belongs passed node mine = sym (ap (end_of top) (filter_mine belongs passed node mine) ∙ end_of-push top (filter belongs passed) node)

end_other : (top : Place) (belongs : ℕ → Bool) (passed : List ℕ) (node : ℕ) → belongs node ≡ false → end_of top (filter belongs passed) ≡ end_of top (filter belongs (passed ++ node ∷ []))
end_other top belongs passed node other = sym (ap (end_of top) (filter_other belongs passed node other))

even_end_is : (is_odd : ℕ → Bool) (passed : List ℕ) (node : ℕ) →
    even_end (is_odd node) (end_of EvenHead (filter (λ n. not (is_odd n)) passed)) node ≡ end_of EvenHead (filter (λ n. not (is_odd n)) (passed ++ node ∷ []))
even_end_is is_odd passed node = ⊎_elim
    (λ odd. ap (λ b. even_end b (end_of EvenHead (filter (λ n. not (is_odd n)) passed)) node) odd ∙ end_other EvenHead (λ n. not (is_odd n)) passed node (not_from_true (is_odd node) odd))
    (λ even. ap (λ b. even_end b (end_of EvenHead (filter (λ n. not (is_odd n)) passed)) node) even ∙ end_mine EvenHead (λ n. not (is_odd n)) passed node (not_from_false (is_odd node) even))
    (cases_Bool (is_odd node))

odd_end_is : (is_odd : ℕ → Bool) (passed : List ℕ) (node : ℕ) → odd_end (is_odd node) (end_of OddHead (filter is_odd passed)) node ≡ end_of OddHead (filter is_odd (passed ++ node ∷ []))
odd_end_is is_odd passed node = ⊎_elim
    (λ odd. ap (λ b. odd_end b (end_of OddHead (filter is_odd passed)) node) odd ∙ end_mine OddHead is_odd passed node odd)
    (λ even. ap (λ b. odd_end b (end_of OddHead (filter is_odd passed)) node) even ∙ end_other OddHead is_odd passed node even)
    (cases_Bool (is_odd node))

-- the moves at the nodes that are left, after these were passed
abbrev pub moves_left : (ℕ → Option ℕ) → (ℕ → Bool) → List ℕ → List ℕ → List Move
moves_left next is_odd passed nodes = moves_of next is_odd (end_of EvenHead (filter (λ n. not (is_odd n)) passed)) (end_of OddHead (filter is_odd passed)) nodes

moves_on : (next : ℕ → Option ℕ) (is_odd : ℕ → Bool) (passed nodes : List ℕ) (node : ℕ) → moves_left next is_odd passed (node ∷ nodes) ≡ move_past next is_odd passed node ∷ moves_left next is_odd (passed ++ node ∷ []) nodes
moves_on next is_odd passed nodes node =
    ap (λ even. move_past next is_odd passed node ∷ moves_of next is_odd even (odd_end (is_odd node) (end_of OddHead (filter is_odd passed)) node) nodes) (even_end_is is_odd passed node)
    ∙ ap (λ odd. move_past next is_odd passed node ∷ moves_of next is_odd (end_of EvenHead (filter (λ n. not (is_odd n)) (passed ++ node ∷ []))) odd nodes) (odd_end_is is_odd passed node)

pub length-moves_of : (next : ℕ → Option ℕ) (is_odd : ℕ → Bool) (even odd : Place) (nodes : List ℕ) → length (moves_of next is_odd even odd nodes) ≡ length nodes
length-moves_of next is_odd even odd [] = refl
length-moves_of next is_odd even odd (node ∷ nodes) = ap suc (length-moves_of next is_odd (even_end (is_odd node) even node) (odd_end (is_odd node) odd node) nodes)

-- each move is that of its node
move_at : (next : ℕ → Option ℕ) (is_odd : ℕ → Bool) (passed nodes : List ℕ) (k node : ℕ) → slice_get nodes k ≡ Some node →
    slice_get (moves_left next is_odd passed nodes) k ≡ Some (move_past next is_odd (passed ++ take k nodes) node)
move_at next is_odd passed [] k node at = absurd (cc)
move_at next is_odd passed (x ∷ nodes) zero node at =
    let same : x ≡ node = cc in
    ap (λ n. Some (move_past next is_odd passed n)) same ∙ ap (λ l. Some (move_past next is_odd l node)) (sym (append-nil passed))
move_at next is_odd passed (x ∷ nodes) (suc k) node at =
    ap (λ l. slice_get l (suc k)) (moves_on next is_odd passed nodes x) ∙ move_at next is_odd (passed ++ x ∷ []) nodes k node at
    ∙ ap (λ l. Some (move_past next is_odd l node)) (append_assoc passed (x ∷ []) (take k nodes))

pub move_of_node : (next : ℕ → Option ℕ) (is_odd : ℕ → Bool) (nodes : List ℕ) (k node : ℕ) → slice_get nodes k ≡ Some node →
    slice_get (moves_of next is_odd EvenHead OddHead nodes) k ≡ Some (move_past next is_odd (take k nodes) node)
move_of_node next is_odd nodes k node at = move_at next is_odd [] nodes k node at

-- at first both heads lead to all nodes
pub split_first : (next : ℕ → Option ℕ) (first : Option ℕ) (is_odd : ℕ → Bool) (nodes : List ℕ) → IsPath next first nodes → IsSplit (record { heads = record { even = first; odd = first }; next = next }) is_odd nodes zero
split_first next first is_odd nodes path = record { even = path; odd = path }

-- the nodes that are left are the same in each state, so the next node of the one that is passed is that of the first state
next_stays : (next new : ℕ → Option ℕ) (first head : Option ℕ) (nodes own : List ℕ) (k node : ℕ) → slice_get nodes k ≡ Some node → IsPath next first nodes → IsPath new head (own ++ drop k nodes) → new node ≡ next node
next_stays next new first head nodes own k node at path now =
    let rest = drop (suc k) nodes in
    let before = leads_to_node next first None (take k nodes) rest node (subst (IsPath next first) (sym (take-append-drop k nodes) ∙ ap (λ l. take k nodes ++ l) (drop_from nodes k node at)) path) in
    let after = leads_to_node new head None own rest node (subst (λ l. IsPath new head (own ++ l)) (drop_from nodes k node at) now) in
    begins new (new node) rest after.1 ∙ sym (begins next (next node) rest before.1)

-- after the first k moves both paths are those after k moves
pub split_after : (next : ℕ → Option ℕ) (first : Option ℕ) (is_odd : ℕ → Bool) (nodes : List ℕ) (k : ℕ) → IsPath next first nodes →
    IsSplit (after_moves (record { heads = record { even = first; odd = first }; next = next }) (take k (moves_of next is_odd EvenHead OddHead nodes))) is_odd nodes k
split_after next first is_odd nodes zero path = split_first next first is_odd nodes path
split_after next first is_odd nodes (suc k) path =
    let start : Split = record { heads = record { even = first; odd = first }; next = next } in
    let moves = moves_of next is_odd EvenHead OddHead nodes in
    let size = length-moves_of next is_odd EvenHead OddHead nodes in
    let split = after_moves start (take k moves) in
    let is = split_after next first is_odd nodes k path in
    ⊎_elim
    (λ within.
    let node = get_or nodes k 0 in
    let at : slice_get nodes k ≡ Some node = slice_get-get_or nodes k 0 within in
    let to : split.next node ≡ next node = next_stays next split.next first split.heads.even nodes (filter (λ n. not (is_odd n)) (take k nodes)) k node at path is.even in
    let one = one_move split is_odd nodes k node at is in
    let made = move_of_node next is_odd nodes k node at in
    let same : move_past split.next is_odd (take k nodes) node ≡ move_past next is_odd (take k nodes) node = ap (λ t. let m : Move = record { place = (move_past next is_odd (take k nodes) node).place; to = t } in m) to in
    let added : after_moves start (take (suc k) moves) ≡ after_move split (move_past split.next is_odd (take k nodes) node) =
    ap (after_moves start) (take_move moves k (move_past next is_odd (take k nodes) node) made) ∙ fold_push after_move start (take k moves) (move_past next is_odd (take k nodes) node) ∙ ap (after_move split) (sym same) in
    subst (λ (s : Split). IsSplit s is_odd nodes (suc k)) (sym added) one)
    (λ past.
    let moves_same : take (suc k) moves ≡ take k moves = take_all (suc k) moves (omega (arith, past, size)) ∙ sym (take_all k moves (omega (arith, past, size))) in
    let sides_same : (belongs : ℕ → Bool) → side_after belongs (suc k) nodes ≡ side_after belongs k nodes = (λ belongs. side_whole belongs nodes (suc k) (omega (arith, past)) ∙ sym (side_whole belongs nodes k past)) in
    subst (λ l. IsSplit (after_moves start l) is_odd nodes (suc k)) (sym moves_same) (record {
      even = subst (IsPath split.next split.heads.even) (sym (sides_same (λ n. not (is_odd n)))) is.even;
      odd = subst (IsPath split.next split.heads.odd) (sym (sides_same is_odd)) is.odd;
    }))
    (cases_lt k (length nodes))
  where
    take_move : (moves : List Move) (j : ℕ) (step : Move) → slice_get moves j ≡ Some step → take (suc j) moves ≡ take j moves ++ step ∷ []
    take_move moves j step at = take-suc moves j step (slice_get_within moves j step at) ∙ ap (λ m. take j moves ++ m ∷ []) (get_or_from_slice_get moves j step step at)

-- each move stores at a head or at a link that is there
place_in : (size : ℕ) (mark : Bool) (even odd : Place) → IsPlaceIn size even → IsPlaceIn size odd → IsPlaceIn size (place_past mark even odd)
place_in size true even odd low high = low
place_in size false even odd low high = high

even_in : (size : ℕ) (mark : Bool) (even : Place) (node : ℕ) → IsPlaceIn size even → node < size → IsPlaceIn size (even_end mark even node)
even_in size true even node low within = low
even_in size false even node low within = within

odd_in : (size : ℕ) (mark : Bool) (odd : Place) (node : ℕ) → IsPlaceIn size odd → node < size → IsPlaceIn size (odd_end mark odd node)
odd_in size true odd node high within = within
odd_in size false odd node high within = high

pub moves_in : (size : ℕ) (next : ℕ → Option ℕ) (is_odd : ℕ → Bool) (nodes : List ℕ) (even odd : Place) → IsPlaceIn size even → IsPlaceIn size odd → All (λ node. node < size) nodes →
    All (λ (step : Move). IsPlaceIn size step.place) (moves_of next is_odd even odd nodes)
moves_in size next is_odd [] even odd low high inside = All-nil (λ (step : Move). IsPlaceIn size step.place)
moves_in size next is_odd (node ∷ nodes) even odd low high inside =
    let within = All-head (λ n. n < size) node nodes inside in
    All-cons (λ (step : Move). IsPlaceIn size step.place) _ _ (place_in size (is_odd node) even odd low high)
    (moves_in size next is_odd nodes (even_end (is_odd node) even node) (odd_end (is_odd node) odd node) (even_in size (is_odd node) even node low within) (odd_in size (is_odd node) odd node high within) (All-tail (λ n. n < size) node nodes inside))

-- the same in a list of links
pub unzipped : (links : List (Option ℕ)) (first : Option ℕ) (is_odd : ℕ → Bool) (nodes : List ℕ) (moves : List Move) (k : ℕ) → IsPathIn links first nodes →
    moves ≡ moves_of (next_in links) is_odd EvenHead OddHead nodes → IsUnzipped links first is_odd nodes moves k
unzipped links first is_odd nodes moves k is same =
    let heads : Heads = record { even = first; odd = first } in
    let made = take k (moves_of (next_in links) is_odd EvenHead OddHead nodes) in
    let inside = All-take (λ (step : Move). IsPlaceIn (length links) step.place) k (moves_of (next_in links) is_odd EvenHead OddHead nodes) (moves_in (length links) (next_in links) is_odd nodes EvenHead OddHead tt tt is.inside) in
    let after = split_in-after_all made links heads inside in
    let size = length-links_after_all made links in
    let split = subst (λ (s : Split). IsSplit s is_odd nodes k) (sym after) (split_after (next_in links) first is_odd nodes k is.path) in
    let within : (belongs : ℕ → Bool) → All (λ node. node < length links) (side_after belongs k nodes) = (λ belongs.
    All-append (λ node. node < length links) (filter belongs (take k nodes)) (drop k nodes)
    (All-filter belongs (λ node. node < length links) (take k nodes) (All-take (λ node. node < length links) k nodes is.inside)) (All-drop (λ node. node < length links) k nodes is.inside)) in
    subst (λ l. IsUnzipped links first is_odd nodes l k) (sym same) (record {
      even = path_in_after links (links_after_all links made) (next_in (links_after_all links made)) (heads_after_all heads made).even (side_after (λ n. not (is_odd n)) k nodes) refl size split.even (within (λ n. not (is_odd n)));
      odd = path_in_after links (links_after_all links made) (next_in (links_after_all links made)) (heads_after_all heads made).odd (side_after is_odd k nodes) refl size split.odd (within is_odd);
    })
