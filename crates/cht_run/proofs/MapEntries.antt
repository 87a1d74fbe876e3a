-- The entries of a map of texts: each stands there once, and the map has it at its text.
use Rattle.std.proofs.Common.{◌≡◌, ◌≢◌, ℕ, Bool, true, false, cond, T, ◌&&◌, List, [], ◌∷◌, map, Some, inl, inr, refl, sym, ap, subst, ◌∙◌}
use Rattle.std.specs.declared.cmp.Ordering.{Ordering}
use Rattle.std.specs.declared.cmp.Ordering.TheVariants.{Less, Equal, Greater}
use Rattle.std.specs.Ordering.{nat_cmp, is_eq, is_lt, ordering_reverse}
use Rattle.std.specs.Cmp.Lexicographic.{slice_cmp}
use Rattle.std.specs.FinMap as finite
use Rattle.std.specs.FinMap.Entries as entry_lists
use Rattle.std.proofs.lemmas.Cmp.{nat_list_cmp_total}
use Rattle.chain_core.specs.Nodes.{On, Once}
use Rattle.intern_log.specs.declared.event.Entry.{Entry}
use Rattle.intern_log.specs.TextMap.{TextMap, entry_of}
use Rattle.cht_run.proofs.Matches.{Stands}

abbrev pub Item : Type 0
Item = List ℕ × Entry

abbrev order : List ℕ → List ℕ → Ordering
order = slice_cmp nat_cmp

first : (a b : Bool) → T (a && b) → T a
first true b p = tt
first false b p = p

second : (a b : Bool) → T (a && b) → T b
second true b p = p
second false b p = absurd p

is_less : (o : Ordering) → T (is_lt o) → o ≡ Less
is_less Less p = refl
is_less Equal p = absurd p
is_less Greater p = absurd p

tied : (text : List ℕ) → order text text ≡ Equal
tied text = go (order text text) refl
  where
    go : (o : Ordering) → order text text ≡ o → o ≡ Equal
    go Less is = let back : Less ≡ Greater = sym is ∙ nat_list_cmp_total.antisymm text text ∙ ap ordering_reverse is in absurd (cc)
    go Equal is = refl
    go Greater is = let back : Greater ≡ Less = sym is ∙ nat_list_cmp_total.antisymm text text ∙ ap ordering_reverse is in absurd (cc)

-- what stands after an entry has a greater text
below : (text : List ℕ) (x : Item) (xs : List Item) → T (entry_lists.below_all order text xs) → Stands x xs → order text x.0 ≡ Less
below text x [] sorted stands = absurd stands
below text x (y ∷ xs) sorted (inl here) = ap (λ (z : Item). order text z.0) (sym here) ∙ is_less (order text y.0) (first (is_lt (order text y.0)) (entry_lists.below_all order text xs) sorted)
below text x (y ∷ xs) sorted (inr later) = below text x xs (second (is_lt (order text y.0)) (entry_lists.below_all order text xs) sorted) later

apart : (text : List ℕ) (x : Item) (xs : List Item) → T (entry_lists.below_all order text xs) → Stands x xs → x.0 ≢ text
apart text x xs sorted stands same = let never : Equal ≡ Less = sym (tied text) ∙ ap (order text) (sym same) ∙ below text x xs sorted stands in absurd (cc)

-- it is found at its text
found : (x : Item) (xs : List Item) → T (entry_lists.is_sorted order xs) → Stands x xs → finite.find order x.0 xs ≡ Some x.1
found x [] sorted stands = absurd stands
found x (y ∷ xs) sorted (inl here) = subst (λ (z : Item). finite.find order z.0 (y ∷ xs) ≡ Some z.1) here (ap (λ o. cond (is_eq o) (Some y.1) (finite.find order y.0 xs)) (tied y.0))
found x (y ∷ xs) sorted (inr later) =
    let less : order y.0 x.0 ≡ Less = below y.0 x xs (first (entry_lists.below_all order y.0 xs) (entry_lists.is_sorted order xs) sorted) later in
    let more : order x.0 y.0 ≡ Greater = nat_list_cmp_total.antisymm x.0 y.0 ∙ ap ordering_reverse less in
    ap (λ o. cond (is_eq o) (Some y.1) (finite.find order x.0 xs)) more ∙ found x xs (second (entry_lists.below_all order y.0 xs) (entry_lists.is_sorted order xs) sorted) later

-- and what is found stands there
stands_found : (text : List ℕ) (e : Entry) (xs : List Item) → finite.find order text xs ≡ Some e → Stands (text, e) xs
stands_found text e [] is = absurd (cc)
stands_found text e (y ∷ xs) is = go (order text y.0) refl (λ later. stands_found text e xs later)
  where
    go : (o : Ordering) → order text y.0 ≡ o → (finite.find order text xs ≡ Some e → Stands (text, e) xs) → Stands (text, e) (y ∷ xs)
    go Equal same later =
        let one : text ≡ y.0 = finite.slice_cmp-IsAntisymmetric finite.nat_cmp-IsAntisymmetric text y.0 same in
        let entry : Some y.1 ≡ Some e = sym (ap (λ o. cond (is_eq o) (Some y.1) (finite.find order text xs)) same) ∙ is in
        let value : y.1 ≡ e = cc in
        inl (λ i. (sym one i, value i))
    go Less other later = inr (later (sym (ap (λ o. cond (is_eq o) (Some y.1) (finite.find order text xs)) other) ∙ is))
    go Greater other later = inr (later (sym (ap (λ o. cond (is_eq o) (Some y.1) (finite.find order text xs)) other) ∙ is))

-- entries whose slots tell their texts apart have slots of their own
slots_once : (slot : Item → ℕ) (xs : List Item) → T (entry_lists.is_sorted order xs) → ((x y : Item) → Stands x xs → Stands y xs → slot x ≡ slot y → x.0 ≡ y.0) → Once (map slot xs)
slots_once slot [] sorted tell = tt
slots_once slot (x ∷ xs) sorted tell =
    let tail = first (entry_lists.below_all order x.0 xs) (entry_lists.is_sorted order xs) sorted in (
      (λ on. go xs on (λ y stands same. apart x.0 y xs tail stands (tell y x (inr stands) (inl refl) same))),
      slots_once slot xs (second (entry_lists.below_all order x.0 xs) (entry_lists.is_sorted order xs) sorted) (λ y z a b. tell y z (inr a) (inr b)),
    )
  where
    go : (ys : List Item) → On (slot x) (map slot ys) → ((y : Item) → Stands y ys → slot y ≡ slot x → ⊥) → ⊥
    go [] on none = on
    go (y ∷ ys) (inl here) none = none y (inl refl) here
    go (y ∷ ys) (inr later) none = go ys later (λ z stands. none z (inr stands))

-- THE MAP

pub has_entry : (m : TextMap) (x : Item) → Stands x (finite.entries m) → entry_of m x.0 ≡ Some x.1
has_entry m x stands = finite.get-entries m x.0 ∙ found x (finite.entries m) (finite.entries_sorted m) stands

pub entry_stands : (m : TextMap) (text : List ℕ) (e : Entry) → entry_of m text ≡ Some e → Stands (text, e) (finite.entries m)
entry_stands m text e is = stands_found text e (finite.entries m) (sym (finite.get-entries m text) ∙ is)

pub entries_apart : (m : TextMap) (slot : Item → ℕ) → ((x y : Item) → Stands x (finite.entries m) → Stands y (finite.entries m) → slot x ≡ slot y → x.0 ≡ y.0) → Once (map slot (finite.entries m))
entries_apart m slot tell = slots_once slot (finite.entries m) (finite.entries_sorted m) tell
