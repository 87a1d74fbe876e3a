-- The last texts of a list, and the different ones among texts.
use Rattle.std.proofs.Common.{◌≡◌, ℕ, ◌-◌, min, Bool, true, false, T, ◌&&◌, List, [], ◌∷◌, ◌++◌, ◌↔◌, length, take, map, is_some, Ordering, Less, Equal, Greater, refl, sym, ap, ◌∙◌}
use native.Mathlib.Omega.{arith}
use Rattle.std.specs.List.{Contains, AllByRecursion, list_any}
use Rattle.std.specs.List.Sorted.{IsStrictlySortedBy}
use Rattle.std.specs.Ordering.{is_lt, nat_cmp, eq_by_cmp}
use Rattle.std.specs.Cmp.Lexicographic.{slice_cmp, texts_ties}
use Rattle.std.specs.FinMap as finite
use Rattle.std.specs.FinMap.Entries as entry_lists
use Rattle.std.proofs.lemmas.Cmp.{nat_list_cmp_total, eq_by_cmp_equiv}
use Rattle.std.proofs.lemmas.List.{take-append-drop, length-drop}
use Rattle.std.proofs.lemmas.Map.Views.{list_any-from_Contains, Contains-from_any}
use Rattle.std.proofs.lemmas.Slice.Eq.{bytes_eq-Decides}
use Rattle.intern_log.specs.Finals.{finals, distinct_texts}

pub finals-end : (hold : ℕ) (texts : List (List ℕ)) → (front : List (List ℕ)) × (texts ≡ front ++ finals hold texts)
finals-end hold texts = (take (length texts - hold) texts, sym (take-append-drop (length texts - hold) texts))

pub finals-length : (hold : ℕ) (texts : List (List ℕ)) → length (finals hold texts) ≡ min hold (length texts)
finals-length hold texts = let count = length-drop (length texts - hold) texts in omega (arith, count)

-- the map of the texts
abbrev marked : List (List ℕ) → List (List ℕ × Unit {0})
marked texts = map (λ text. (text, tt {0})) texts

keys-marked : (texts : List (List ℕ)) → map (λ e. e.0) (marked texts) ≡ texts
keys-marked [] = refl
keys-marked (text ∷ texts) = ap (λ ts. text ∷ ts) (keys-marked texts)

tied : (q t : List ℕ) → eq_by_cmp (slice_cmp nat_cmp) q t ≡ true → q ≡ t
tied q t is = (bytes_eq-Decides q t).0 (texts_ties q t ∙ is)

found : (texts : List (List ℕ)) (text : List ℕ) → list_any (eq_by_cmp (slice_cmp nat_cmp) text) (distinct_texts texts) ≡ list_any (eq_by_cmp (slice_cmp nat_cmp) text) texts
found texts text =
    sym (finite.contains_key-keys (finite.from_entries {R = slice_cmp nat_cmp} (marked texts)) text)
    ∙ ap (λ o. is_some o) (finite.get-from_entries nat_list_cmp_total (marked texts) text)
    ∙ entry_lists.is_some-find (slice_cmp nat_cmp) text (marked texts)
    ∙ ap (list_any (eq_by_cmp (slice_cmp nat_cmp) text)) (keys-marked texts)

pub same_texts : (texts : List (List ℕ)) (text : List ℕ) → Contains (distinct_texts texts) text ↔ Contains texts text
same_texts texts text = (
  (λ there. Contains-from_any tied text texts (sym (found texts text) ∙ list_any-from_Contains (eq_by_cmp_equiv nat_list_cmp_total) text (distinct_texts texts) there)),
  (λ there. Contains-from_any tied text (distinct_texts texts) (found texts text ∙ list_any-from_Contains (eq_by_cmp_equiv nat_list_cmp_total) text texts there)),
)

-- keys that rise by the test of a map rise
is_less : (o : Ordering) → T (is_lt o) → o ≡ Less
is_less Less holds = refl
is_less Equal holds = absurd holds
is_less Greater holds = absurd holds

both : (a b : Bool) → T (a && b) → T a × T b
both true b holds = (tt, holds)
both false b holds = absurd holds

module _ {K X : Type 0} (R : K → K → Ordering) where
  below : (k : K) (es : List (K × X)) → T (entry_lists.below_all R k es) → AllByRecursion (λ y. R k y ≡ Less) (map (λ e. e.0) es)
  below k [] holds = tt
  below k (e ∷ es) holds = let parts = both (is_lt (R k e.0)) (entry_lists.below_all R k es) holds in (is_less (R k e.0) parts.0, below k es parts.1)

  rising_keys : (es : List (K × X)) → T (finite.is_sorted R es) → IsStrictlySortedBy R (map (λ e. e.0) es)
  unfolding IsStrictlySortedBy
  rising_keys [] holds = tt
  rising_keys (e ∷ es) holds = let parts = both (entry_lists.below_all R e.0 es) (finite.is_sorted R es) holds in (below e.0 es parts.0, rising_keys es parts.1)

pub distinct_rising : (texts : List (List ℕ)) → IsStrictlySortedBy (slice_cmp nat_cmp) (distinct_texts texts)
distinct_rising texts = rising_keys (slice_cmp nat_cmp) _ (finite.entries_sorted (finite.from_entries {R = slice_cmp nat_cmp} (marked texts)))
