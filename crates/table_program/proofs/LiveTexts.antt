-- The live texts of a map, as the different ones of a list of texts; and its entries, where they count how often each text is held.
use Rattle.std.proofs.Common.{◌≡◌, ℕ, Bool, true, false, cond, List, [], ◌∷◌, map, Option, Some, None, refl, sym, ap, subst, ◌∙◌, ◌&&◌, ◌||◌, arith, zero-add}
use Rattle.std.specs.Prelude.{is_some, T, nat_lt, MatchOption}
use Rattle.std.specs.List.{list_any}
use Rattle.std.specs.Str.{bytes_eq}
use Rattle.std.specs.Ordering.{nat_cmp, eq_by_cmp, is_lt}
use Rattle.std.specs.Cmp.Lexicographic.{slice_cmp, texts_ties}
use Rattle.std.proofs.lemmas.Bool.{lt-ltb, le-ltb, or_left}
use Rattle.std.proofs.lemmas.Cmp.{nat_list_cmp_total}
use Rattle.std.specs.FinMap as finite
use Rattle.std.specs.FinMap.Entries.{below_all, is_some-find}
use Rattle.intern_log.specs.declared.event.Entry.{Entry}
use Rattle.intern_log.specs.TextMap.{TextMap, entry_of, live_texts}
use Rattle.intern_log.specs.Finals.{is_among_texts, distinct_texts}
use Rattle.table_program.specs.Holding.{Held, times_held, Counts, Holds}
use Rattle.table_program.specs.SymbolRun.{held_texts}
use Rattle.table_program.proofs.Holds.{times_held-cons}

-- nothing at each key
abbrev marked : {X : Type 0} → List (List ℕ × X) → List (List ℕ × Unit {0})
marked es = map (λ e. (e.0, tt {0})) es

module _ {X : Type 0} where
  below_all-marked : (key : List ℕ) (es : List (List ℕ × X)) → below_all (slice_cmp nat_cmp) key (marked es) ≡ below_all (slice_cmp nat_cmp) key es
  below_all-marked key [] = refl
  below_all-marked key (e ∷ es) = ap (λ b. is_lt (slice_cmp nat_cmp key e.0) && b) (below_all-marked key es)

  is_sorted-marked : (es : List (List ℕ × X)) → finite.is_sorted (slice_cmp nat_cmp) (marked es) ≡ finite.is_sorted (slice_cmp nat_cmp) es
  is_sorted-marked [] = refl
  is_sorted-marked (e ∷ es) = λ i. below_all-marked e.0 es i && is_sorted-marked es i

  keys-marked : (es : List (List ℕ × X)) → map (λ e. e.0) (marked es) ≡ map (λ e. e.0) es
  keys-marked [] = refl
  keys-marked (e ∷ es) = ap (λ keys. e.0 ∷ keys) (keys-marked es)

-- texts with nothing at each, and the texts alone
keys_of_texts : (texts : List (List ℕ)) → map (λ (e : List ℕ × Unit {0}). e.0) (map (λ (text : List ℕ). (text, tt {0})) texts) ≡ texts
keys_of_texts [] = refl
keys_of_texts (t ∷ texts) = ap (λ rest. t ∷ rest) (keys_of_texts texts)

-- two tests that agree
pub list_any-agree : (p r : List ℕ → Bool) → ((t : List ℕ) → p t ≡ r t) → (texts : List (List ℕ)) → list_any p texts ≡ list_any r texts
list_any-agree p r agree [] = refl
list_any-agree p r agree (t ∷ texts) = λ i. agree t i || list_any-agree p r agree texts i

-- nothing, where there is something, is one thing only
marks : (o : Option (Unit {0})) → o ≡ cond (is_some o) (Some (tt {0})) None
marks None = refl
marks (Some u) = refl

-- a text is found among texts with nothing at each where it is among the texts
found_among : (texts : List (List ℕ)) (q : List ℕ) → is_some (finite.find (slice_cmp nat_cmp) q (map (λ text. (text, tt {0})) texts)) ≡ is_among_texts texts q
found_among texts q =
    is_some-find (slice_cmp nat_cmp) q (map (λ text. (text, tt {0})) texts)
    ∙ ap (list_any (eq_by_cmp (slice_cmp nat_cmp) q)) (keys_of_texts texts)
    ∙ list_any-agree _ _ (λ t. sym (texts_ties q t)) texts

-- and among the marked entries of a map where the map has it
found_live : (m : TextMap) (q : List ℕ) → is_some (finite.find (slice_cmp nat_cmp) q (marked (finite.entries m))) ≡ is_some (entry_of m q)
found_live m q =
    is_some-find (slice_cmp nat_cmp) q (marked (finite.entries m))
    ∙ ap (list_any (eq_by_cmp (slice_cmp nat_cmp) q)) (keys-marked (finite.entries m))
    ∙ sym (finite.contains_key-keys m q)

-- the live texts are the different ones of these texts, where a text is live exactly if it is among them
pub live_texts_are : (m : TextMap) (texts : List (List ℕ)) → ((q : List ℕ) → is_some (entry_of m q) ≡ is_among_texts texts q) → live_texts m ≡ distinct_texts texts
live_texts_are m texts same =
    let sorted : T (finite.is_sorted (slice_cmp nat_cmp) (marked (finite.entries m))) = subst T (sym (is_sorted-marked (finite.entries m))) (finite.entries_sorted m) in
    let alike : (q : List ℕ) → finite.get (finite.from_sorted {R = slice_cmp nat_cmp} (marked (finite.entries m))) q ≡ finite.get (finite.from_entries {R = slice_cmp nat_cmp} (map (λ text. (text, tt {0})) texts)) q =
    λ q. finite.get-from_sorted (slice_cmp nat_cmp) (marked (finite.entries m)) q sorted
    ∙ marks _
    ∙ ap (λ b. cond b (Some (tt {0})) None) (found_live m q ∙ same q ∙ sym (found_among texts q))
    ∙ sym (marks _)
    ∙ sym (finite.get-from_entries nat_list_cmp_total (map (λ text. (text, tt {0})) texts) q) in
    sym (keys-marked (finite.entries m))
    ∙ ap (map (λ e. e.0)) (sym (finite.entries-from_sorted (slice_cmp nat_cmp) (marked (finite.entries m)) sorted))
    ∙ ap finite.keys (finite.same_map nat_list_cmp_total (finite.slice_cmp-IsAntisymmetric finite.nat_cmp-IsAntisymmetric) _ _ alike)

-- a text is among the held ones exactly if it is held once or more
among_held : (q : List ℕ) (held : List Held) → is_among_texts (held_texts held) q ≡ nat_lt 0 (times_held q held)
among_held q [] = refl
among_held q (p ∷ held) = by_test (bytes_eq q p.0) refl (among_held q held)
  where
    by_test : (b : Bool) → bytes_eq q p.0 ≡ b → is_among_texts (held_texts held) q ≡ nat_lt 0 (times_held q held) → (bytes_eq q p.0 || is_among_texts (held_texts held) q) ≡ nat_lt 0 (times_held q (p ∷ held))
    by_test true is rest = or_left _ _ is ∙ sym (lt-ltb 0 _ (omega (arith, times_held-cons q p held true is)))
    by_test false is rest = ap (λ b. b || is_among_texts (held_texts held) q) is ∙ rest ∙ ap (nat_lt 0) (sym (times_held-cons q p held false is ∙ zero-add _))

-- an entry is there exactly if its text is held
there_if_held : (q : List ℕ) (held : List Held) (o : Option Entry) → MatchOption o (times_held q held ≡ 0) (Counts q held) → is_some o ≡ nat_lt 0 (times_held q held)
there_if_held q held None none = sym (le-ltb 0 _ (omega arith))
there_if_held q held (Some e) counts = sym (lt-ltb 0 _ counts.some)

-- what is held is live, and nothing else
pub held_are_live : (m : TextMap) (held : List Held) → Holds m held → (q : List ℕ) → is_some (entry_of m q) ≡ is_among_texts (held_texts held) q
held_are_live m held holds q = there_if_held q held (entry_of m q) (holds q) ∙ sym (among_held q held)

-- so the live texts are the different ones among those that are held
pub live_texts_are_held : (m : TextMap) (held : List Held) → Holds m held → live_texts m ≡ distinct_texts (held_texts held)
live_texts_are_held m held holds = live_texts_are m (held_texts held) (held_are_live m held holds)
