-- What an intern and a Drop do to a map whose counts are those of a list of held texts.
use Rattle.std.proofs.Common.{◌≡◌, ℕ, ◌+◌, ◌-◌, ◌<◌, ◌≤◌, Bool, true, false, cond, List, [], ◌∷◌, ◌++◌, Option, Some, None, min, length, refl, sym, ap, subst, ◌∙◌, arith, ◌==◌, nat_le, zero-add}
use Rattle.std.specs.Prelude.{MatchOption}
use Rattle.std.specs.Str.{bytes_eq}
use Rattle.std.specs.Option.{option_map, option_and_then}
use Rattle.std.proofs.lemmas.Slice.Eq.{bytes_eq-Decides}
use Rattle.std.proofs.lemmas.Bool.{leb-true, leb-false}
use Rattle.std.proofs.lemmas.Bool.Decides.{Decides-eqb}
use Rattle.std.proofs.lemmas.List.Sums.{sum_by-cons, sum_by-append, count_by-le-length}
use Rattle.intern_log.specs.declared.event.Handle.{Handle}
use Rattle.intern_log.specs.declared.event.Entry.{Entry}
use Rattle.intern_log.specs.declared.event.What.TheVariants.{Create, Take, Drop}
use Rattle.intern_log.specs.TextMap.{TextMap, entry_of, HasHandle, IsLive, handle_eq, at_handle}
use Rattle.intern_log.specs.Log.{next, new_entry, raised, lowered, HandlesDiffer}
use Rattle.intern_log.proofs.Entries.{entry_of-next}
use Rattle.intern_log.proofs.Handles.{handle_eq-Decides}
use Rattle.table_program.specs.Holding.{Held, times_held, IsHeldAs, Counts, Holds}

-- one more hold, behind the others or before them, of the text or of another
pub times_held-push : (q t : List ℕ) (h : Handle) (held : List Held) (b : Bool) → bytes_eq q t ≡ b → times_held q (held ++ (t, h) ∷ []) ≡ times_held q held + cond b 1 0
times_held-push q t h held b is =
    sum_by-append (λ (p : Held). cond (bytes_eq q p.0) 1 0) held ((t, h) ∷ []) ∙ ap (λ c. times_held q held + (0 + cond c 1 0)) is ∙ ap (λ n. times_held q held + n) (zero-add _)

pub times_held-cons : (q : List ℕ) (p : Held) (held : List Held) (b : Bool) → bytes_eq q p.0 ≡ b → times_held q (p ∷ held) ≡ cond b 1 0 + times_held q held
times_held-cons q p held b is = sum_by-cons (λ (r : Held). cond (bytes_eq q r.0) 1 0) p held ∙ ap (λ c. cond c 1 0 + times_held q held) is

pub IsHeldAs-push : (q : List ℕ) (k : Handle) (held : List Held) (t : List ℕ) (h : Handle) → IsHeldAs q k held → (bytes_eq q t ≡ true → h ≡ k) → IsHeldAs q k (held ++ (t, h) ∷ [])
IsHeldAs-push q k [] t h all this = (this, tt)
IsHeldAs-push q k (p ∷ held) t h all this = (all.0, IsHeldAs-push q k held t h all.1 this)

-- a text that is not held at all is held as any handle
IsHeldAs-none : (q : List ℕ) (k : Handle) (held : List Held) → times_held q held ≡ 0 → IsHeldAs q k held
IsHeldAs-none q k [] none = tt
IsHeldAs-none q k (p ∷ held) none =
    let rest : times_held q held ≤ times_held q (p ∷ held) = omega (arith, times_held-cons q p held (bytes_eq q p.0) refl) in
    ((λ here. let one = times_held-cons q p held true here in absurd (omega arith)), IsHeldAs-none q k held (omega arith))

pub not_true : (b : Bool) → (b ≡ true → ⊥) → b ≡ false
not_true true never = absurd (never refl)
not_true false never = refl

-- it is not the same text
pub not_same : (b : Bool) → b ≡ true → b ≡ false → ⊥
not_same b is is_not = cc

-- the entry of a text after a Create, where the test says whether it is the text of the Create
create_case : (q t : List ℕ) (h : Handle) (held : List Held) (b : Bool) (o : Option Entry) → bytes_eq q t ≡ b → (b ≡ true → o ≡ None) →
    MatchOption o (times_held q held ≡ 0) (Counts q held) →
    MatchOption (cond b (Some (new_entry h)) o) (times_held q (held ++ (t, h) ∷ []) ≡ 0) (Counts q (held ++ (t, h) ∷ []))
create_case q t h held true None is absent before =
    let more = times_held-push q t h held true is in
    record { count = omega arith; some = omega arith; handle = IsHeldAs-push q h held t h (IsHeldAs-none q h held before) (λ here. refl) }
create_case q t h held true (Some e) is absent before = let none : Some e ≡ None = absent refl in absurd (cc)
create_case q t h held false None is absent before = let more = times_held-push q t h held false is in omega arith
create_case q t h held false (Some e) is absent before =
    let more = times_held-push q t h held false is in
    record { count = before.count ∙ omega arith; some = omega (arith, before.some); handle = IsHeldAs-push q e.handle held t h before.handle (λ here. absurd (not_same _ here is)) }

-- the text of a Create was not live, and is held once more
pub Holds-create : (m : TextMap) (held : List Held) (t : List ℕ) (h : Handle) → Holds m held → entry_of m t ≡ None → Holds (next m (Create t h)) (held ++ (t, h) ∷ [])
Holds-create m held t h holds absent q =
    let here : bytes_eq q t ≡ true → entry_of m q ≡ None = λ same. ap (entry_of m) ((bytes_eq-Decides q t).0 same) ∙ absent in
    let after = create_case q t h held (bytes_eq q t) (entry_of m q) refl here (holds q) in
    subst (λ o. MatchOption o (times_held q (held ++ (t, h) ∷ []) ≡ 0) (Counts q (held ++ (t, h) ∷ []))) (sym (entry_of-next m (Create t h) q)) after

-- the same after a Take, of a text that was live with the handle
take_case : (q t : List ℕ) (h : Handle) (held : List Held) (b : Bool) (o : Option Entry) → bytes_eq q t ≡ b → (b ≡ true → (e : Entry) × (o ≡ Some e) × (e.handle ≡ h)) →
    length held < 65535 → MatchOption o (times_held q held ≡ 0) (Counts q held) →
    MatchOption (cond b (option_map raised o) o) (times_held q (held ++ (t, h) ∷ []) ≡ 0) (Counts q (held ++ (t, h) ∷ []))
take_case q t h held true None is there few before = let found = there refl in let none : None ≡ Some found.0 = found.1 in absurd (cc)
take_case q t h held true (Some e) is there few before =
    let found = there refl in
    let same : e ≡ found.0 = (let equal : Some e ≡ Some found.0 = found.1 in cc) in
    let more = times_held-push q t h held true is in
    let bound = count_by-le-length (λ (p : Held). bytes_eq q p.0) held in
    record {
      count = ap (λ n. min (n + 1) 65535) before.count ∙ omega arith;
      some = omega arith;
      handle = IsHeldAs-push q e.handle held t h before.handle (λ here. sym found.2 ∙ ap (λ (x : Entry). x.handle) (sym same));
    }
take_case q t h held false None is there few before = let more = times_held-push q t h held false is in omega arith
take_case q t h held false (Some e) is there few before =
    let more = times_held-push q t h held false is in
    record { count = before.count ∙ omega arith; some = omega (arith, before.some); handle = IsHeldAs-push q e.handle held t h before.handle (λ here. absurd (not_same _ here is)) }

pub Holds-take : (m : TextMap) (held : List Held) (t : List ℕ) (h : Handle) → Holds m held → HasHandle m t h → length held < 65535 → Holds (next m (Take t h)) (held ++ (t, h) ∷ [])
Holds-take m held t h holds there few q =
    let here : bytes_eq q t ≡ true → (e : Entry) × (entry_of m q ≡ Some e) × (e.handle ≡ h) =
    λ same. (there.0, ap (entry_of m) ((bytes_eq-Decides q t).0 same) ∙ there.1, there.2) in
    let after = take_case q t h held (bytes_eq q t) (entry_of m q) refl here few (holds q) in
    subst (λ o. MatchOption o (times_held q (held ++ (t, h) ∷ []) ≡ 0) (Counts q (held ++ (t, h) ∷ []))) (sym (entry_of-next m (Take t h) q)) after

-- the entry of the text that is held longest
front_case : (t : List ℕ) (h : Handle) (held : List Held) (o : Option Entry) → MatchOption o (times_held t ((t, h) ∷ held) ≡ 0) (Counts t ((t, h) ∷ held)) →
    (e : Entry) × (o ≡ Some e) × (e.handle ≡ h)
front_case t h held None none =
    let one = times_held-cons t (t, h) held true ((bytes_eq-Decides t t).1 refl) in absurd (omega arith)
front_case t h held (Some e) counts = (e, refl, sym (counts.handle.0 ((bytes_eq-Decides t t).1 refl)))

pub front_has : (m : TextMap) (held : List Held) (t : List ℕ) (h : Handle) → Holds m ((t, h) ∷ held) → HasHandle m t h
front_has m held t h holds = front_case t h held (entry_of m t) (holds t)

-- what is held is live
pub held_is_live : (m : TextMap) (held : List Held) (t : List ℕ) (h : Handle) → Holds m ((t, h) ∷ held) → IsLive m h
held_is_live m held t h holds = (t, front_has m held t h holds)

-- one hold less on an entry that is held no more than 65,534 times
lowered_case : (q : List ℕ) (h : Handle) (held : List Held) (e : Entry) (p : Held) (permanent gone : Bool) → e.count == 65535 ≡ permanent → nat_le e.count 1 ≡ gone →
    bytes_eq q p.0 ≡ true → e.count < 65535 → Counts q (p ∷ held) e →
    MatchOption (cond permanent (Some e) (cond gone None (Some (record e { count = e.count - 1 })))) (times_held q held ≡ 0) (Counts q held)
lowered_case q h held e p true gone is_permanent is_gone same few counts = let full : e.count ≡ 65535 = (Decides-eqb e.count 65535).0 is_permanent in absurd (omega arith)
lowered_case q h held e p false true is_permanent is_gone same few counts =
    let one = times_held-cons q p held true same in
    let last : e.count ≤ 1 = leb-true e.count 1 is_gone in
    omega (arith, counts.count)
lowered_case q h held e p false false is_permanent is_gone same few counts =
    let one = times_held-cons q p held true same in
    let more : 1 < e.count = leb-false e.count 1 is_gone in
    record { count = omega (arith, counts.count); some = omega (arith, counts.count); handle = counts.handle.1 }

-- a Drop of the handle held longest, where the test says whether the entry has it
drop_case : (q : List ℕ) (t : List ℕ) (h : Handle) (held : List Held) (o : Option Entry) → times_held q ((t, h) ∷ held) < 65535 →
    (bytes_eq q t ≡ true → (e : Entry) × (o ≡ Some e) × (e.handle ≡ h)) → ((e : Entry) → o ≡ Some e → e.handle ≡ h → bytes_eq q t ≡ true) →
    MatchOption o (times_held q ((t, h) ∷ held) ≡ 0) (Counts q ((t, h) ∷ held)) →
    MatchOption (option_and_then (at_handle h lowered) o) (times_held q held ≡ 0) (Counts q held)
drop_case q t h held None few here only before = omega (arith, times_held-cons q (t, h) held (bytes_eq q t) refl)
drop_case q t h held (Some e) few here only before = by_test (handle_eq e.handle h) refl
  where
    by_test : (b : Bool) → handle_eq e.handle h ≡ b → MatchOption (cond b (lowered e) (Some e)) (times_held q held ≡ 0) (Counts q held)
    by_test true is =
        lowered_case q h held e (t, h) (e.count == 65535) (nat_le e.count 1) refl refl (only e refl ((handle_eq-Decides e.handle h).0 is)) (omega (arith, before.count)) before
    by_test false is =
        let other : bytes_eq q t ≡ false = not_true (bytes_eq q t) (λ same. let found = here same in
        let equal : e ≡ found.0 = (let somes : Some e ≡ Some found.0 = found.1 in cc) in
        not_same _ ((handle_eq-Decides e.handle h).1 (ap (λ (x : Entry). x.handle) equal ∙ found.2)) is) in
        let fewer = times_held-cons q (t, h) held false other in
        record { count = before.count ∙ omega arith; some = omega (arith, before.some); handle = before.handle.1 }

-- a Drop of the handle held longest lets it go
pub Holds-drop : (m : TextMap) (held : List Held) (t : List ℕ) (h : Handle) → Holds m ((t, h) ∷ held) → HandlesDiffer m → length held + 1 < 65535 → Holds (next m (Drop h)) held
Holds-drop m held t h holds differ few q =
    let front = front_has m held t h holds in
    let bound = count_by-le-length (λ (p : Held). bytes_eq q p.0) ((t, h) ∷ held) in
    let here : bytes_eq q t ≡ true → (e : Entry) × (entry_of m q ≡ Some e) × (e.handle ≡ h) =
    λ same. (front.0, ap (entry_of m) ((bytes_eq-Decides q t).0 same) ∙ front.1, front.2) in
    let only : (e : Entry) → entry_of m q ≡ Some e → e.handle ≡ h → bytes_eq q t ≡ true =
    λ e is same. (bytes_eq-Decides q t).1 (differ q t h (e, is, same) front) in
    let after = drop_case q t h held (entry_of m q) (omega arith) here only (holds q) in
    subst (λ o. MatchOption o (times_held q held ≡ 0) (Counts q held)) (sym (entry_of-next m (Drop h) q)) after
