-- The entries of a map whose counts are those of a list of held texts count as many holds as the list has.
use Rattle.std.proofs.Common.{◌≡◌, ℕ, ◌+◌, ◌<◌, Bool, true, false, cond, List, [], ◌∷◌, map, length, sum_by, count_by, Option, Some, None, refl, sym, ap, ◌∙◌, ◌&&◌, ◌||◌, arith, zero-add}
use Rattle.std.specs.Prelude.{T, MatchOption}
use Rattle.std.specs.Str.{bytes_eq}
use Rattle.std.specs.Ordering.{nat_cmp, is_lt, is_eq}
use Rattle.std.specs.declared.cmp.Ordering.{Ordering}
use Rattle.std.specs.declared.cmp.Ordering.TheVariants.{Less, Equal, Greater}
use Rattle.std.specs.Cmp.Lexicographic.{slice_cmp, texts_ties}
use Rattle.std.proofs.lemmas.Bool.{lt-ltb, cond-true, cond-false, false_from_ne_true, both_ways, or_right, or_left}
use Rattle.std.proofs.lemmas.List.Sums.{sum_by-cons, count_by-le-length}
use Rattle.std.proofs.lemmas.Slice.Eq.{bytes_eq-Decides}
use Rattle.std.specs.FinMap as finite
use Rattle.std.specs.FinMap.Entries.{below_all}
use Rattle.intern_log.specs.declared.event.Entry.{Entry}
use Rattle.intern_log.specs.TextMap.{TextMap, entry_of}
use Rattle.intern_log.specs.Finals.{is_among_texts}
use Rattle.intern_log.specs.EntryCounts.{references_to, references_of}
use Rattle.table_program.specs.Holding.{Held, times_held, Counts, Holds}
use Rattle.table_program.specs.SymbolRun.{held_texts}
use Rattle.table_program.proofs.LiveTexts.{held_are_live, list_any-agree}

-- a list of entries in the order of their texts
abbrev Sorted : List (List ℕ × Entry) → Type 0
Sorted es = T (finite.is_sorted (slice_cmp nat_cmp) es)

abbrev find : List ℕ → List (List ℕ × Entry) → Option Entry
find q es = finite.find (slice_cmp nat_cmp) q es

both_parts : (a b : Bool) → T (a && b) → T a × T b
both_parts true b holds = (tt, holds)
both_parts false b holds = absurd holds

-- a text that is less than another does not tie with it
not_tied : (r : Ordering) → T (is_lt r) → is_eq r ≡ false
not_tied Less less = refl
not_tied Equal less = absurd less
not_tied Greater less = absurd less

-- the test of two texts answers alike both ways round, and true at one text
same_itself : (t : List ℕ) → bytes_eq t t ≡ true
same_itself t = (bytes_eq-Decides t t).1 refl

turned : (t q : List ℕ) → bytes_eq t q ≡ false → bytes_eq q t ≡ false
turned t q other = false_from_ne_true (bytes_eq q t) (λ same. both_ways (bytes_eq t q) other ((bytes_eq-Decides t q).1 (sym ((bytes_eq-Decides q t).0 same))))

-- what is below all the texts of a list is none of them
below_differs : (t u : List ℕ) → T (is_lt (slice_cmp nat_cmp t u)) → bytes_eq t u ≡ false
below_differs t u less = texts_ties t u ∙ not_tied (slice_cmp nat_cmp t u) less

below_none : (t : List ℕ) (es : List (List ℕ × Entry)) → T (below_all (slice_cmp nat_cmp) t es) → find t es ≡ None
below_none t [] below = refl
below_none t (e ∷ es) below =
    let parts = both_parts (is_lt (slice_cmp nat_cmp t e.0)) (below_all (slice_cmp nat_cmp) t es) below in
    cond-false _ _ _ (not_tied (slice_cmp nat_cmp t e.0) parts.0) ∙ below_none t es parts.1

below_count : (t : List ℕ) (es : List (List ℕ × Entry)) → T (below_all (slice_cmp nat_cmp) t es) → count_by (λ k. bytes_eq k t) (map (λ e. e.0) es) ≡ 0
below_count t [] below = refl
below_count t (e ∷ es) below =
    let parts = both_parts (is_lt (slice_cmp nat_cmp t e.0)) (below_all (slice_cmp nat_cmp) t es) below in
    sum_by-cons (λ k. cond (bytes_eq k t) 1 0) e.0 (map (λ x. x.0) es)
    ∙ ap (λ b. cond b 1 0 + count_by (λ k. bytes_eq k t) (map (λ x. x.0) es)) (turned t e.0 (below_differs t e.0 parts.0))
    ∙ zero-add _
    ∙ below_count t es parts.1

-- the first entry is found at its text, and the later ones stay found at theirs
found_first : (e : List ℕ × Entry) (es : List (List ℕ × Entry)) → find e.0 (e ∷ es) ≡ Some e.1
found_first e es = cond-true _ _ _ (sym (texts_ties e.0 e.0) ∙ same_itself e.0)

found_later : (e : List ℕ × Entry) (es : List (List ℕ × Entry)) → Sorted (e ∷ es) → (q : List ℕ) (f : Entry) → find q es ≡ Some f → find q (e ∷ es) ≡ Some f
found_later e es sorted q f found = by_test (bytes_eq q e.0) refl
  where
    below : T (below_all (slice_cmp nat_cmp) e.0 es)
    below = (both_parts (below_all (slice_cmp nat_cmp) e.0 es) (finite.is_sorted (slice_cmp nat_cmp) es) sorted).0

    by_test : (b : Bool) → bytes_eq q e.0 ≡ b → find q (e ∷ es) ≡ Some f
    by_test true same =
        let none : find q es ≡ None = ap (λ t. find t es) ((bytes_eq-Decides q e.0).0 same) ∙ below_none e.0 es below in
        absurd (cc)
    by_test false other = cond-false _ _ _ (sym (texts_ties q e.0) ∙ other) ∙ found

-- two sums over sorted entries, of what is so at each entry that is found
sums_agree : (f : Entry → ℕ) (g : List ℕ → ℕ) (es : List (List ℕ × Entry)) → Sorted es → ((q : List ℕ) (e : Entry) → find q es ≡ Some e → f e ≡ g q) → sum_by f (map (λ e. e.1) es) ≡ sum_by g (map (λ e. e.0) es)
sums_agree f g [] sorted each = refl
sums_agree f g (e ∷ es) sorted each =
    let rest : Sorted es = (both_parts (below_all (slice_cmp nat_cmp) e.0 es) (finite.is_sorted (slice_cmp nat_cmp) es) sorted).1 in
    sum_by-cons f e.1 (map (λ x. x.1) es)
    ∙ (λ i. each e.0 e.1 (found_first e es) i + sums_agree f g es rest (λ q x found. each q x (found_later e es sorted q x found)) i)
    ∙ sym (sum_by-cons g e.0 (map (λ x. x.0) es))

-- a text among those of sorted entries is there once
counted_once : (es : List (List ℕ × Entry)) → Sorted es → (t : List ℕ) → is_among_texts (map (λ e. e.0) es) t ≡ true → count_by (λ k. bytes_eq k t) (map (λ e. e.0) es) ≡ 1
counted_once [] sorted t among = absurd (cc)
counted_once (e ∷ es) sorted t among = by_test (bytes_eq e.0 t) refl (counted_once es parts.1 t)
  where
    parts : T (below_all (slice_cmp nat_cmp) e.0 es) × T (finite.is_sorted (slice_cmp nat_cmp) es)
    parts = both_parts (below_all (slice_cmp nat_cmp) e.0 es) (finite.is_sorted (slice_cmp nat_cmp) es) sorted

    more : (b : Bool) → bytes_eq e.0 t ≡ b → count_by (λ k. bytes_eq k t) (map (λ x. x.0) (e ∷ es)) ≡ cond b 1 0 + count_by (λ k. bytes_eq k t) (map (λ x. x.0) es)
    more b is = sum_by-cons (λ k. cond (bytes_eq k t) 1 0) e.0 (map (λ x. x.0) es) ∙ ap (λ c. cond c 1 0 + count_by (λ k. bytes_eq k t) (map (λ x. x.0) es)) is

    by_test : (b : Bool) → bytes_eq e.0 t ≡ b → (is_among_texts (map (λ x. x.0) es) t ≡ true → count_by (λ k. bytes_eq k t) (map (λ x. x.0) es) ≡ 1) → count_by (λ k. bytes_eq k t) (map (λ x. x.0) (e ∷ es)) ≡ 1
    by_test true same later =
        let rest : count_by (λ k. bytes_eq k t) (map (λ x. x.0) es) ≡ 0 =
        ap (λ u. count_by (λ k. bytes_eq k u) (map (λ x. x.0) es)) (sym ((bytes_eq-Decides e.0 t).0 same)) ∙ below_count e.0 es parts.0 in
        omega (arith, more true same)
    by_test false other later =
        let among_later : is_among_texts (map (λ x. x.0) es) t ≡ true = sym (ap (λ b. b || is_among_texts (map (λ x. x.0) es) t) (turned e.0 t other)) ∙ among in
        omega (arith, more false other, later among_later)

-- a sum of sums
sum_by-plus : (f g h : List ℕ → ℕ) → ((k : List ℕ) → f k ≡ g k + h k) → (keys : List (List ℕ)) → sum_by f keys ≡ sum_by g keys + sum_by h keys
sum_by-plus f g h each [] = refl
sum_by-plus f g h each (k ∷ keys) = omega (arith, sum_by-cons f k keys, sum_by-cons g k keys, sum_by-cons h k keys, each k, sum_by-plus f g h each keys)

sum_by-none : (f : List ℕ → ℕ) → ((k : List ℕ) → f k ≡ 0) → (keys : List (List ℕ)) → sum_by f keys ≡ 0
sum_by-none f each [] = refl
sum_by-none f each (k ∷ keys) = omega (arith, sum_by-cons f k keys, each k, sum_by-none f each keys)

-- how often texts are held together, where each held text is among them once
all_holds : (keys : List (List ℕ)) (held : List Held) → ((t : List ℕ) → is_among_texts (held_texts held) t ≡ true → count_by (λ k. bytes_eq k t) keys ≡ 1) → sum_by (λ k. times_held k held) keys ≡ length held
all_holds keys [] once = sum_by-none _ (λ k. refl) keys
all_holds keys (p ∷ held) once =
    let split = sum_by-plus (λ k. times_held k (p ∷ held)) (λ k. cond (bytes_eq k p.0) 1 0) (λ k. times_held k held) (λ k. sum_by-cons (λ (r : Held). cond (bytes_eq k r.0) 1 0) p held) keys in
    let first : count_by (λ k. bytes_eq k p.0) keys ≡ 1 = once p.0 (or_left _ _ (same_itself p.0)) in
    let rest = all_holds keys held (λ t among. once t (or_right _ _ among)) in
    omega (arith, split, first, rest)

-- an entry that counts its holds, which are fewer than 65,535
counts_holds : (q : List ℕ) (held : List Held) (o : Option Entry) (e : Entry) → length held < 65535 → MatchOption o (times_held q held ≡ 0) (Counts q held) → o ≡ Some e → references_to e ≡ times_held q held
counts_holds q held None e few counts is = absurd (cc)
counts_holds q held (Some f) e few counts is =
    let same : f ≡ e = cc in
    let count : e.count ≡ times_held q held = ap (λ (x : Entry). x.count) (sym same) ∙ counts.count in
    let bound = count_by-le-length (λ (p : Held). bytes_eq q p.0) held in
    cond-true _ _ _ (lt-ltb e.count 65535 (omega arith)) ∙ count

-- fewer than 65,535 holds are all counted
pub references_are : (m : TextMap) (held : List Held) → Holds m held → length held < 65535 → references_of m ≡ length held
references_are m held holds few =
    sums_agree references_to (λ k. times_held k held) (finite.entries m) (finite.entries_sorted m) (λ q e found. counts_holds q held (entry_of m q) e few (holds q) (finite.get-entries m q ∙ found))
    ∙ all_holds (finite.keys m) held (λ t among. counted_once (finite.entries m) (finite.entries_sorted m) t
    (list_any-agree _ _ (texts_ties t) (finite.keys m) ∙ sym (finite.contains_key-keys m t) ∙ held_are_live m held holds t ∙ among))
