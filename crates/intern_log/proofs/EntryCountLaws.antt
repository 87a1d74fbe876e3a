-- The counts of live entries, the holds that they count, and what a Drop leaves of them.
use Rattle.std.proofs.Common.{◌≡◌, ℕ, ◌+◌, ◌-◌, ◌<◌, ◌≤◌, ◌==◌, nat_le, Bool, true, false, cond, List, [], ◌∷◌, map, length, Option, Some, None, refl, sym, ap, subst, ◌∙◌, arith}
use Rattle.std.specs.Prelude.{nat_lt, sum_by}
use Rattle.std.specs.Option.{option_map, option_and_then, unwrap_or}
use Rattle.std.specs.Str.{bytes_eq}
use Rattle.std.specs.Ordering.{nat_cmp, is_eq}
use Rattle.std.specs.declared.cmp.Ordering.{Ordering}
use Rattle.std.specs.declared.cmp.Ordering.TheVariants.{Less, Equal, Greater}
use Rattle.std.specs.Cmp.Lexicographic.{slice_cmp}
use Rattle.std.specs.FinMap as finite
use Rattle.std.specs.FinMap.Entries.{by_order}
use Rattle.std.proofs.lemmas.Bool.{ltb-true, lt-ltb, leb-true, cond-true, cond-false}
use Rattle.std.proofs.lemmas.Bool.Decides.{Decides-eqb}
use Rattle.std.proofs.lemmas.List.Sums.{sum_by-cons}
use Rattle.std.proofs.lemmas.Cmp.{nat_list_cmp_total}
use Rattle.intern_log.specs.declared.event.Handle.{Handle}
use Rattle.intern_log.specs.declared.event.Entry.{Entry}
use Rattle.intern_log.specs.declared.event.Event.{Event}
use Rattle.intern_log.specs.declared.event.What.{What}
use Rattle.intern_log.specs.declared.event.What.TheVariants.{Create, Take, Drop, Perm, Kill}
use Rattle.intern_log.specs.declared.event.Released.TheVariants.{Dropped, Permanent}
use Rattle.intern_log.specs.TextMap.{TextMap, no_texts, entry_of, put_at, handle_eq, at_handle}
use Rattle.intern_log.specs.Log.{next, entry_after, raised, lowered, made_permanent, map_after, map_of}
use Rattle.intern_log.specs.EntryCounts.{released_of, references_to, references_of}
use Rattle.intern_log.proofs.Changes.{raised_counted, lowered_counted}
use Rattle.intern_log.proofs.Entries.{entry_of-next}

-- a count from 1 to 65,535
abbrev Fits : Option Entry → Type 0
Fits o = (e : Entry) → o ≡ Some e → (1 ≤ e.count) × (e.count ≤ 65535)

fits_one : (e f : Entry) → (1 ≤ e.count) × (e.count ≤ 65535) → Some e ≡ Some f → (1 ≤ f.count) × (f.count ≤ 65535)
fits_one e f fits is = let same : e ≡ f = cc in subst (λ (x : Entry). (1 ≤ x.count) × (x.count ≤ 65535)) same fits

fits_none : Fits None
fits_none e is = absurd (cc)

fits_either : (b : Bool) (x y : Option Entry) → Fits x → Fits y → Fits (cond b x y)
fits_either true x y first second = first
fits_either false x y first second = second

lowered_below : (e f : Entry) → e.count ≤ 65535 → lowered e ≡ Some f → f.count ≤ 65535
lowered_below e f most is = by (e.count == 65535) (nat_le e.count 1) is
  where
    by : (b c : Bool) → cond b (Some e) (cond c None (Some (record e { count = e.count - 1 }))) ≡ Some f → f.count ≤ 65535
    by true c made = let same : e ≡ f = cc in omega (arith, ap (λ (x : Entry). x.count) same, most)
    by false true made = absurd (cc)
    by false false made = let same : record e { count = e.count - 1 } ≡ f = cc in omega (arith, ap (λ (x : Entry). x.count) same, most)

fits_changed : (h : Handle) (change : Entry → Option Entry) (o : Option Entry) → ((e : Entry) → (1 ≤ e.count) × (e.count ≤ 65535) → Fits (change e)) → Fits o → Fits (option_and_then (at_handle h change) o)
fits_changed h change None changes fits = fits_none
fits_changed h change (Some e) changes fits =
    let here = fits e refl in
    fits_either (handle_eq e.handle h) (change e) (Some e) (changes e here) (λ f is. fits_one e f here is)

fits_raised : (o : Option Entry) → Fits o → Fits (option_map raised o)
fits_raised None fits f is = absurd (cc)
fits_raised (Some e) fits f is = fits_one (raised e) f (raised_counted e, omega arith) is

fits_after : (what : What) (q : List ℕ) (o : Option Entry) → Fits o → Fits (entry_after what q o)
fits_after (Create text h) q o fits = fits_either (bytes_eq q text) _ o (λ f is. fits_one (record { handle = h; count = 1 }) f (omega arith, omega arith) is) fits
fits_after (Take text h) q o fits = fits_either (bytes_eq q text) _ o (fits_raised o fits) fits
fits_after (Drop h) q o fits = fits_changed h lowered o (λ e here f is. (lowered_counted e f is, lowered_below e f here.1 is)) fits
fits_after (Perm h) q o fits = fits_changed h (λ e. Some (made_permanent e)) o (λ e here f is. fits_one (made_permanent e) f (omega arith, omega arith) is) fits
fits_after (Kill h) q o fits = fits_changed h (λ e. None) o (λ e here. fits_none) fits
fits_after _ q o fits = fits

counts_after : (m : TextMap) (log : List Event) → ((q : List ℕ) → Fits (entry_of m q)) → (q : List ℕ) → Fits (entry_of (map_after m log) q)
counts_after m [] fits q = fits q
counts_after m (e ∷ log) fits q = counts_after (next m e.what) log (λ t. subst Fits (sym (entry_of-next m e.what t)) (fits_after e.what t (entry_of m t) (fits t))) q

pub counts_fit : (log : List Event) (text : List ℕ) (e : Entry) → entry_of (map_of log) text ≡ Some e → (1 ≤ e.count) × (e.count ≤ 65535)
counts_fit log text = counts_after no_texts log (λ q. subst Fits (sym (finite.get-empty (slice_cmp nat_cmp) q)) fits_none) text

-- what letting go of an entry comes to
pub others_drop : (e : Entry) → ¬ (e.count ≡ 65535) → released_of e.count ≡ Dropped (unwrap_or (option_map (λ (f : Entry). f.count) (lowered e)) 0)
others_drop e other = by (e.count == 65535) (nat_le e.count 1) (Decides-eqb e.count 65535).0 (leb-true e.count 1)
  where
    by : (b c : Bool) → (b ≡ true → e.count ≡ 65535) → (c ≡ true → e.count ≤ 1) →
        cond b Permanent (Dropped (e.count - 1)) ≡ Dropped (unwrap_or (option_map (λ (f : Entry). f.count) (cond b (Some e) (cond c None (Some (record e { count = e.count - 1 }))))) 0)
    by true c full few = absurd (other (full refl))
    by false true full few = let one = few refl in ap Dropped (omega (arith, one))
    by false false full few = refl

-- the holds that an entry counts, and those of a map with one more text
references_below : (e : Entry) → e.count < 65535 → references_to e ≡ e.count
references_below e below = cond-true _ _ _ (lt-ltb e.count 65535 below)

references_from : (e : Entry) → 65535 ≤ e.count → references_to e ≡ 0
references_from e most = by (nat_lt e.count 65535) refl
  where
    by : (b : Bool) → nat_lt e.count 65535 ≡ b → cond b e.count 0 ≡ 0
    by true is = absurd (let less = ltb-true e.count 65535 is in omega (arith, less, most))
    by false is = refl

pub references_are : (e : Entry) → (e.count < 65535 → references_to e ≡ e.count) × (65535 ≤ e.count → references_to e ≡ 0)
references_are e = (references_below e, references_from e)

abbrev sum_of : List (List ℕ × Entry) → ℕ
sum_of es = sum_by references_to (map (λ e. e.1) es)

sum_of_none : (es : List (List ℕ × Entry)) → length es ≡ 0 → sum_of es ≡ 0
sum_of_none [] none = refl
sum_of_none (e ∷ es) none = absurd (omega (arith, none))

pub references_none : references_of no_texts ≡ 0
references_none = sum_of_none (finite.entries no_texts) (sym (finite.len-entries no_texts) ∙ finite.len-empty (slice_cmp nat_cmp) Entry)

sum-put : (text : List ℕ) (e : Entry) (es : List (List ℕ × Entry)) → finite.find (slice_cmp nat_cmp) text es ≡ None → sum_of (finite.put (slice_cmp nat_cmp) text e es) ≡ sum_of es + references_to e
sum-put text e [] none = let sum = sum_by-cons references_to e [] in omega (arith, sum)
sum-put text e (x ∷ es) none = by (slice_cmp nat_cmp text x.0) refl (sum-put text e es)
  where
    by : (o : Ordering) → slice_cmp nat_cmp text x.0 ≡ o →
        (finite.find (slice_cmp nat_cmp) text es ≡ None → sum_of (finite.put (slice_cmp nat_cmp) text e es) ≡ sum_of es + references_to e) → sum_of (finite.put (slice_cmp nat_cmp) text e (x ∷ es)) ≡ sum_of (x ∷ es) + references_to e
    by Less is later =
        let made : finite.put (slice_cmp nat_cmp) text e (x ∷ es) ≡ (text, e) ∷ x ∷ es = ap (λ o. by_order o ((text, e) ∷ x ∷ es) ((x.0, e) ∷ es) (x ∷ finite.put (slice_cmp nat_cmp) text e es)) is in
        let sum = sum_by-cons references_to e (map (λ y. y.1) (x ∷ es)) in
        let total = ap sum_of made in
        omega (arith, sum, total)
    by Equal is later = absurd (let found : finite.find (slice_cmp nat_cmp) text (x ∷ es) ≡ Some x.1 = cond-true _ _ _ (ap is_eq is) in cc)
    by Greater is later =
        let made : finite.put (slice_cmp nat_cmp) text e (x ∷ es) ≡ x ∷ finite.put (slice_cmp nat_cmp) text e es =
        ap (λ o. by_order o ((text, e) ∷ x ∷ es) ((x.0, e) ∷ es) (x ∷ finite.put (slice_cmp nat_cmp) text e es)) is in
        let rest : finite.find (slice_cmp nat_cmp) text es ≡ None = sym (cond-false _ _ _ (ap is_eq is)) ∙ none in
        let more = later rest in
        let left = sum_by-cons references_to x.1 (map (λ y. y.1) es) in
        let right = sum_by-cons references_to x.1 (map (λ y. y.1) (finite.put (slice_cmp nat_cmp) text e es)) in
        let total = ap sum_of made in
        omega (arith, more, left, right, total)

pub references_more : (m : TextMap) (text : List ℕ) (e : Entry) → entry_of m text ≡ None → references_of (put_at m text (Some e)) ≡ references_of m + references_to e
references_more m text e none = ap sum_of (finite.entries-insert nat_list_cmp_total m text e) ∙ sum-put text e (finite.entries m) (sym (finite.get-entries m text) ∙ none)
