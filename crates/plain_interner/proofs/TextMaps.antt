-- The map that a list of entries stands for, read by places.
use Rattle.std.proofs.Common.{◌≡◌, ℕ, Bool, true, false, cond, List, [], ◌∷◌, slice_get, Option, None, Some, length, refl, sym, ap, subst, ◌∙◌, arith, IsPermutation}
use Rattle.std.proofs.lemmas.Map.Entries.{lookup_from_place, place_from_lookup}
use Rattle.std.proofs.lemmas.List.Sorted.{IsPermutation-refl, IsPermutation-cons, IsPermutation-trans, IsPermutation-middle, IsPermutation-map, IsPermutation-sym}
use Rattle.std.specs.Str.{bytes_eq}
use Rattle.std.proofs.lemmas.Slice.Eq.{bytes_eq-Decides}
use Rattle.std.specs.Cmp.Lexicographic.{slice_cmp, texts_ties, nat_list_eq_equiv}
use Rattle.std.specs.Ordering.{nat_cmp, is_eq}
use Rattle.std.specs.declared.cmp.Ordering.{Ordering}
use Rattle.std.specs.declared.cmp.Ordering.TheVariants.{Less, Equal, Greater}
use Rattle.std.proofs.lemmas.Cmp.{nat_list_cmp_total}
use Rattle.std.specs.List.{IsDistinct, AllByRecursion}
use Rattle.std.specs.Map.{keys_of, values_of, lookup, lookup_key}
use Rattle.std.specs.FinMap as finite
use Rattle.std.specs.FinMap.Entries as entry_lists
use Rattle.intern_log.specs.declared.event.Entry.{Entry}
use Rattle.intern_log.specs.TextMap.{no_texts, entry_of, live_texts, put_at}
use Rattle.intern_log.proofs.Entries.{entry_of-put_at, same_entries}
use Rattle.indexmap.specs.IndexMap.{IndexMap, IsUnique, set_value_at}
use Rattle.indexmap.proofs.CallerLemmas.{updates-with_value_at}
use Rattle.plain_interner.specs.Entries.{text_map}

pub same_pair : {A B : Type 0} (p q : A × B) → Some p ≡ Some q → p ≡ q
same_pair p q is = cc

-- a key that a look-up found passes the test
pub key_passes : {K X : Type 0} (test : K → Bool) (es : List (K × X)) (k : K) → lookup_key test es ≡ Some k → test k ≡ true
key_passes test [] k is = absurd (cc)
key_passes test (e ∷ es) k is = first (test e.0) refl (key_passes test es k) is
  where
    first : (b : Bool) → test e.0 ≡ b → (lookup_key test es ≡ Some k → test k ≡ true) → cond b (Some e.0) (lookup_key test es) ≡ Some k → test k ≡ true
    first true passes later here = let same : e.0 ≡ k = cc in ap test (sym same) ∙ passes
    first false fails later there = later there

find-lookup : (es : List (List ℕ × Entry)) (q : List ℕ) → finite.find (slice_cmp nat_cmp) q es ≡ lookup (bytes_eq q) es
find-lookup [] q = refl
find-lookup (e ∷ es) q = ap (λ b. cond b (Some e.1) (finite.find (slice_cmp nat_cmp) q es)) (sym (texts_ties q e.0)) ∙ ap (cond (bytes_eq q e.0) (Some e.1)) (find-lookup es q)

pub entry_of-text_map : (es : List (List ℕ × Entry)) (q : List ℕ) → entry_of (text_map es) q ≡ lookup (bytes_eq q) es
unfolding text_map
entry_of-text_map es q = finite.get-from_entries nat_list_cmp_total es q ∙ find-lookup es q

-- a change of what a look-up finds is that change of the map
pub text_map-updated : (es fs : List (List ℕ × Entry)) (t : List ℕ) (o : Option Entry)
    → ((q : List ℕ) → lookup (bytes_eq q) fs ≡ cond (bytes_eq t q) o (lookup (bytes_eq q) es)) → text_map fs ≡ put_at (text_map es) t o
text_map-updated es fs t o updated = same_entries _ _ (λ q.
    entry_of-text_map fs q ∙ updated q
    ∙ ap (λ b. cond b o (lookup (bytes_eq q) es)) (nat_list_eq_equiv.symm t q)
    ∙ sym (entry_of-put_at (text_map es) t o q ∙ ap (cond (bytes_eq q t) o) (entry_of-text_map es q)))

-- the entry at a place is that of its text
pub entry_of-place : (es : List (List ℕ × Entry)) (i : ℕ) (t : List ℕ) (e : Entry) → IsDistinct bytes_eq (keys_of es) → slice_get es i ≡ Some (t, e) → entry_of (text_map es) t ≡ Some e
entry_of-place es i t e distinct at = entry_of-text_map es t ∙ lookup_from_place nat_list_eq_equiv es i t e distinct at

-- and each entry has a place
pub place_of-entry : (es : List (List ℕ × Entry)) (t : List ℕ) (e : Entry) → entry_of (text_map es) t ≡ Some e → (i : ℕ) × (slice_get es i ≡ Some (t, e))
place_of-entry es t e is =
    let place = place_from_lookup (bytes_eq t) es e (sym (entry_of-text_map es t) ∙ is) in
    (place.0, place.2 ∙ ap (λ k. Some (k, e)) (sym ((bytes_eq-Decides t place.1).0 place.3)))

-- a write of a value is a change at the text that stands there
pub text_map-written : {S : Type 0} (m : IndexMap (List ℕ) Entry S) (i : ℕ) (t : List ℕ) (e f : Entry) → IsUnique bytes_eq m → slice_get m.entries i ≡ Some (t, e)
    → text_map (set_value_at m.entries i f) ≡ put_at (text_map m.entries) t (Some f)
text_map-written m i t e f unique at = text_map-updated m.entries (set_value_at m.entries i f) t (Some f) (updates-with_value_at m i f nat_list_eq_equiv unique t e at).0

-- the map of no entries
pub text_map-nil : text_map [] ≡ no_texts
unfolding text_map
text_map-nil = refl

-- an entry that is put in stands somewhere among the others
put-IsPermutation : (k : List ℕ) (v : Entry) (es : List (List ℕ × Entry)) → finite.find (slice_cmp nat_cmp) k es ≡ None → IsPermutation ((k, v) ∷ es) (entry_lists.put (slice_cmp nat_cmp) k v es)
put-IsPermutation k v [] none = IsPermutation-refl _
put-IsPermutation k v (e ∷ es) none = in_order (slice_cmp nat_cmp k e.0) none (put-IsPermutation k v es)
  where
    in_order : (r : Ordering) → cond (is_eq r) (Some e.1) (finite.find (slice_cmp nat_cmp) k es) ≡ None
        → (finite.find (slice_cmp nat_cmp) k es ≡ None → IsPermutation ((k, v) ∷ es) (entry_lists.put (slice_cmp nat_cmp) k v es))
        → IsPermutation ((k, v) ∷ e ∷ es) (entry_lists.by_order r ((k, v) ∷ e ∷ es) ((e.0, v) ∷ es) (e ∷ entry_lists.put (slice_cmp nat_cmp) k v es))
    in_order Less absent later = IsPermutation-refl _
    in_order Equal absent later = absurd (cc)
    in_order Greater absent later = IsPermutation-trans _ _ _ (IsPermutation-middle ((k, v) ∷ []) e es) (IsPermutation-cons e _ _ (later absent))

apart_from_all : (k : List ℕ) (es : List (List ℕ × Entry)) → AllByRecursion (λ other. bytes_eq k other ≡ false) (keys_of es) → lookup (bytes_eq k) es ≡ None
apart_from_all k [] all = refl
apart_from_all k (e ∷ es) all = ap (λ b. cond b (Some e.1) (lookup (bytes_eq k) es)) all.0 ∙ apart_from_all k es all.1

no_items : {A : Type 0} (xs : List A) → length xs ≡ 0 → xs ≡ []
no_items [] none = refl
no_items (x ∷ xs) none = absurd (omega (arith, none))

-- the entries of the map are those of the list, in another order
pub entries-text_map : (es : List (List ℕ × Entry)) → IsDistinct bytes_eq (keys_of es) → IsPermutation es (finite.entries (text_map es))
unfolding text_map IsDistinct
entries-text_map [] distinct =
    subst (IsPermutation []) (sym (no_items _ (sym (finite.len-entries (finite.empty {X = Entry} {R = slice_cmp nat_cmp})) ∙ finite.len-empty (slice_cmp nat_cmp) Entry))) (IsPermutation-refl [])
entries-text_map (e ∷ es) distinct =
    let m = finite.from_entries {R = slice_cmp nat_cmp} es in
    let absent : finite.find (slice_cmp nat_cmp) e.0 (finite.entries m) ≡ None =
    sym (finite.get-entries m e.0) ∙ finite.get-from_entries nat_list_cmp_total es e.0 ∙ find-lookup es e.0 ∙ apart_from_all e.0 es distinct.0 in
    subst (IsPermutation (e ∷ es)) (sym (finite.entries-insert nat_list_cmp_total m e.0 e.1))
    (IsPermutation-trans _ _ _ (IsPermutation-cons e _ _ (entries-text_map es distinct.1)) (put-IsPermutation e.0 e.1 (finite.entries m) absent))

-- and so are the texts, and the entries without them
pub live_texts-text_map : (es : List (List ℕ × Entry)) → IsDistinct bytes_eq (keys_of es) → IsPermutation (live_texts (text_map es)) (keys_of es)
live_texts-text_map es distinct = IsPermutation-sym _ _ (IsPermutation-map (λ e. e.0) _ _ (entries-text_map es distinct))

pub values-text_map : (es : List (List ℕ × Entry)) → IsDistinct bytes_eq (keys_of es) → IsPermutation (finite.values (text_map es)) (values_of es)
values-text_map es distinct = IsPermutation-sym _ _ (IsPermutation-map (λ e. e.1) _ _ (entries-text_map es distinct))
