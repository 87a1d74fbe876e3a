-- What one move leaves of both paths, for any function that gives the next nodes.
use Rattle.std.proofs.Common.{◌≡◌, ℕ, suc, List, [], ◌∷◌, ◌++◌, ◌⊎◌, ⊎_elim, inl, inr, take, drop, Bool, true, false, not, cond, Option, Some, None, refl, sym, ap, subst, ◌∙◌}
use Rattle.std.specs.List.{Contains, filter, slice_get}
use Rattle.std.proofs.lemmas.Bool.{not-true, not_from_true, not_from_false, cases_Bool}
use Rattle.chain_core.specs.Path.{Leads, IsPath, next_with, without}
use Rattle.chain_core.specs.Nodes.{On, Once}
use Rattle.chain_core.proofs.Members.{On-from_Contains, Contains-from_On, on_left, on_either, once_parts, without-here, without-absent, without-other}
use Rattle.chain_core.proofs.Ways.{path_once}
use Rattle.chain_core.proofs.Stores.{way_elsewhere, path_past, path_joined}
use Rattle.resize_core.specs.declared.moves.Heads.{Heads}
use Rattle.resize_core.specs.declared.moves.Place.{Place}
use Rattle.resize_core.specs.declared.moves.Place.TheVariants.{EvenHead, OddHead, Link}
use Rattle.resize_core.specs.Moves.{Split, end_of, heads_at, next_at, after_move}
use Rattle.resize_core.specs.Join.{ShareNone}
use Rattle.resize_core.specs.Unzip.{place_past, move_past, side_after, IsSplit}
use Rattle.resize_core.proofs.Ends.{end_cases, on_last, leads_last, leads_to_node}
use Rattle.resize_core.proofs.Sides.{side_before, side_mine, side_other}

-- a store at the end of these nodes, by the head that leads to them or by the link of the last one, leaves this path from that head and this one from another
abbrev pub Stored : (ℕ → Option ℕ) → Place → List ℕ → Option ℕ → Option ℕ → Option ℕ → List ℕ → List ℕ → Type 0
Stored next top own to head aside mine theirs =
    ((end_of top own ≡ top) × IsPath next to mine × IsPath next aside theirs)
    ⊎ ((last : ℕ) × (end_of top own ≡ Link last) × IsPath (next_with next last to) head mine × IsPath (next_with next last to) aside theirs)

-- where no node is twice, a list without a node in the middle is what is before and after it
without_middle : (xs ys : List ℕ) (node : ℕ) → Once (xs ++ node ∷ ys) → without node (xs ++ node ∷ ys) ≡ xs ++ ys
without_middle [] ys node once = without-here node ys ∙ without-absent node ys once.0
without_middle (x ∷ xs) ys node once =
    without-other node x (xs ++ node ∷ ys) (λ same. once.0 (subst (λ n. On n (xs ++ node ∷ ys)) (sym same) (met xs))) ∙ ap (λ l. x ∷ l) (without_middle xs ys node once.1)
  where
    met : (zs : List ℕ) → On node (zs ++ node ∷ ys)
    met [] = inl refl
    met (z ∷ zs) = inr (met zs)

-- a node that passes a test is not on a list that was filtered by another
on_filter : (belongs : ℕ → Bool) (nodes : List ℕ) (node : ℕ) → On node (filter belongs nodes) → belongs node ≡ true
on_filter belongs [] node on = absurd on
on_filter belongs (x ∷ nodes) node on = ⊎_elim
    (λ mine. ⊎_elim
    (λ here. subst (λ n. belongs n ≡ true) here mine)
    (λ later. on_filter belongs nodes node later)
    (subst (λ b. On node (cond b (x ∷ filter belongs nodes) (filter belongs nodes))) mine on))
    (λ other. on_filter belongs nodes node (subst (λ b. On node (cond b (x ∷ filter belongs nodes) (filter belongs nodes))) other on))
    (cases_Bool (belongs x))

-- one side is led past a node, and the other side, whose own nodes and the node itself are none of the first one's, keeps its path
led_past : (next : ℕ → Option ℕ) (top : Place) (head aside : Option ℕ) (own theirs rest : List ℕ) (node : ℕ) → IsPath next head (own ++ node ∷ rest) → IsPath next aside (theirs ++ node ∷ rest) →
    ((n : ℕ) → On n own → On n theirs → ⊥) → Stored next top own (next node) head aside (own ++ rest) (theirs ++ node ∷ rest)
led_past next top head aside own theirs rest node path other apart = ⊎_elim
    (λ none. inl (none.1, subst (λ l. IsPath next (next node) (l ++ rest)) (sym none.0) (leads_to_node next head None own rest node path).1, other))
    (λ some.
    let last = some.1 in
    let on : On last own = subst (On last) (sym some.2) (on_last some.0 last) in
    let parts = leads_to_node next head None own rest node path in
    let follows : next last ≡ Some node = leads_last next head (Some node) some.0 last (subst (λ l. Leads next head l (Some node)) some.2 parts.0) in
    let once = path_once next head (own ++ node ∷ rest) path in
    let past = path_past next last node follows head (own ++ node ∷ rest) path (Contains-from_On (own ++ node ∷ rest) last (on_left own (node ∷ rest) last on)) in
    let absent : Contains (theirs ++ node ∷ rest) last → ⊥ = (λ has. ⊎_elim
    (λ before. apart last on before)
    (λ later. once_parts own (node ∷ rest) last once on later)
    (on_either theirs (node ∷ rest) last (On-from_Contains (theirs ++ node ∷ rest) last has))) in
    inr (
      last,
      some.3,
      subst (IsPath (next_with next last (next node)) head) (without_middle own rest node once) past,
      way_elsewhere next last (next node) aside None (theirs ++ node ∷ rest) other absent,
    ))
    (end_cases top own)

-- the side that loses the k-th node is led past it, and the other side gains it
side_led : (next : ℕ → Option ℕ) (top : Place) (head aside : Option ℕ) (mine theirs : ℕ → Bool) (nodes : List ℕ) (k node : ℕ) → slice_get nodes k ≡ Some node → mine node ≡ false → theirs node ≡ true →
    ((n : ℕ) → mine n ≡ true → theirs n ≡ false) → IsPath next head (side_after mine k nodes) → IsPath next aside (side_after theirs k nodes) →
    Stored next top (filter mine (take k nodes)) (next node) head aside (side_after mine (suc k) nodes) (side_after theirs (suc k) nodes)
side_led next top head aside mine theirs nodes k node at loses gains apart path other =
    let rest = drop (suc k) nodes in
    let led = led_past next top head aside (filter mine (take k nodes)) (filter theirs (take k nodes)) rest node
    (subst (IsPath next head) (side_before mine nodes k node at) path) (subst (IsPath next aside) (side_before theirs nodes k node at) other)
    (λ n on_mine on_theirs. let no = apart n (on_filter mine (take k nodes) n on_mine) in let yes = on_filter theirs (take k nodes) n on_theirs in absurd (cc)) in
    subst (λ l. Stored next top (filter mine (take k nodes)) (next node) head aside l (side_after theirs (suc k) nodes)) (sym (side_other mine nodes k node at loses))
    (subst (λ l. Stored next top (filter mine (take k nodes)) (next node) head aside (filter mine (take k nodes) ++ rest) l) (sym (side_mine theirs nodes k node at gains)) led)

-- what such a store at the end of the even or of the odd nodes leaves of both paths
abbrev pub Both : (ℕ → Option ℕ) → Heads → Place → Option ℕ → List ℕ → List ℕ → Type 0
Both next heads place to evens odds = IsPath (next_at next place to) (heads_at heads place to).even evens × IsPath (next_at next place to) (heads_at heads place to).odd odds

stored_even : (next : ℕ → Option ℕ) (heads : Heads) (own : List ℕ) (to : Option ℕ) (evens odds : List ℕ) → Stored next EvenHead own to heads.even heads.odd evens odds → Both next heads (end_of EvenHead own) to evens odds
stored_even next heads own to evens odds stored = ⊎_elim
    (λ by_head. subst (λ place. Both next heads place to evens odds) (sym by_head.0) (by_head.1, by_head.2))
    (λ by_link. subst (λ place. Both next heads place to evens odds) (sym by_link.1) (by_link.2, by_link.3))
    stored

stored_odd : (next : ℕ → Option ℕ) (heads : Heads) (own : List ℕ) (to : Option ℕ) (evens odds : List ℕ) → Stored next OddHead own to heads.odd heads.even odds evens → Both next heads (end_of OddHead own) to evens odds
stored_odd next heads own to evens odds stored = ⊎_elim
    (λ by_head. subst (λ place. Both next heads place to evens odds) (sym by_head.0) (by_head.2, by_head.1))
    (λ by_link. subst (λ place. Both next heads place to evens odds) (sym by_link.1) (by_link.3, by_link.2))
    stored

-- the k-th node's move makes of the paths after k moves those after k + 1
pub one_move : (split : Split) (is_odd : ℕ → Bool) (nodes : List ℕ) (k node : ℕ) → slice_get nodes k ≡ Some node → IsSplit split is_odd nodes k →
    IsSplit (after_move split (move_past split.next is_odd (take k nodes) node)) is_odd nodes (suc k)
one_move split is_odd nodes k node at is =
    let is_even : ℕ → Bool = (λ n. not (is_odd n)) in
    let evens = filter is_even (take k nodes) in
    let odds = filter is_odd (take k nodes) in
    let Moved : Bool → Type 0 = (λ mark. Both split.next split.heads (place_past mark (end_of EvenHead evens) (end_of OddHead odds)) (split.next node) (side_after is_even (suc k) nodes) (side_after is_odd (suc k) nodes)) in
    let both = ⊎_elim
    (λ odd. subst Moved (sym odd)
    (stored_even split.next split.heads evens (split.next node) (side_after is_even (suc k) nodes) (side_after is_odd (suc k) nodes)
    (side_led split.next EvenHead split.heads.even split.heads.odd is_even is_odd nodes k node at (not_from_true (is_odd node) odd) odd (λ n even. not-true (is_odd n) even) is.even is.odd)))
    (λ even. subst Moved (sym even)
    (stored_odd split.next split.heads odds (split.next node) (side_after is_even (suc k) nodes) (side_after is_odd (suc k) nodes)
    (side_led split.next OddHead split.heads.odd split.heads.even is_odd is_even nodes k node at even (not_from_false (is_odd node) even) (λ n odd. not_from_true (is_odd n) odd) is.odd is.even)))
    (cases_Bool (is_odd node)) in
    record { even = both.0; odd = both.1 }

-- the move that joins two chains
pub joined_paths : (split : Split) (even odd : List ℕ) → IsPath split.next split.heads.even even → IsPath split.next split.heads.odd odd → ShareNone even odd →
    Both split.next split.heads (end_of EvenHead even) split.heads.odd (even ++ odd) odd
joined_paths split even odd low high apart = stored_even split.next split.heads even split.heads.odd (even ++ odd) odd (⊎_elim
    (λ none. inl (none.1, subst (λ l. IsPath split.next split.heads.odd (l ++ odd)) (sym none.0) high, high))
    (λ some.
    let last = some.1 in
    let has : Contains even last = Contains-from_On even last (subst (On last) (sym some.2) (on_last some.0 last)) in
    let ends : split.next last ≡ None = leads_last split.next split.heads.even None some.0 last (subst (IsPath split.next split.heads.even) some.2 low) in
    inr (
      last,
      some.3,
      path_joined split.next last split.heads.odd ends split.heads.even even odd low has high (apart last has),
      way_elsewhere split.next last split.heads.odd split.heads.odd None odd high (apart last has),
    ))
    (end_cases EvenHead even))
