-- A map that has each of a list of entries once, as it grows and as entries are killed.
use Rattle.std.proofs.Common.{◌≡◌, ℕ, ◌≤◌, Bool, true, false, cond, List, [], ◌∷◌, ◌++◌, Option, Some, None, refl, sym, ap, subst, ◌∙◌, arith}
use Rattle.std.specs.Prelude.{MatchOption}
use Rattle.std.specs.Str.{bytes_eq}
use Rattle.std.specs.Option.{option_and_then}
use Rattle.std.proofs.lemmas.Slice.Eq.{bytes_eq-Decides}
use Rattle.std.specs.FinMap as finite
use Rattle.std.specs.Ordering.{nat_cmp}
use Rattle.std.specs.Cmp.Lexicographic.{slice_cmp}
use Rattle.intern_log.specs.declared.event.Handle.{Handle}
use Rattle.intern_log.specs.declared.event.Entry.{Entry}
use Rattle.intern_log.specs.declared.event.What.TheVariants.{Create, Kill}
use Rattle.intern_log.specs.TextMap.{TextMap, no_texts, entry_of, handle_eq, at_handle, HasHandle, IsLive}
use Rattle.intern_log.specs.Log.{next, HandlesDiffer}
use Rattle.intern_log.proofs.Entries.{entry_of-next}
use Rattle.intern_log.proofs.Handles.{handle_eq-Decides}
use Rattle.table_program.specs.Holding.{Held, times_held, Counts}
use Rattle.table_program.specs.StringRun.{HasEach}
use Rattle.table_program.proofs.Holds.{times_held-push, times_held-cons, IsHeldAs-push, not_true, not_same, front_has, Holds-create}

-- with no texts
pub HasEach-none : HasEach no_texts []
HasEach-none = record {
  holds = λ q. (let P : Option Entry → Type 0 = λ o. MatchOption o (times_held q [] ≡ 0) (Counts q []) in subst P (sym (finite.get-empty (slice_cmp nat_cmp) q)) refl);
  once = λ q. omega arith;
}

-- a text with no entry is not held
not_held : (q : List ℕ) (held : List Held) (o : Option Entry) → MatchOption o (times_held q held ≡ 0) (Counts q held) → o ≡ None → times_held q held ≡ 0
not_held q held None counts none = counts
not_held q held (Some e) counts none = absurd (cc)

-- one more entry, of a text that had none
pub HasEach-create : (m : TextMap) (held : List Held) (t : List ℕ) (h : Handle) → HasEach m held → entry_of m t ≡ None → HasEach (next m (Create t h)) (held ++ (t, h) ∷ [])
HasEach-create m held t h has absent = record {
  holds = Holds-create m held t h has.holds absent;
  once = λ q. by_test q (bytes_eq q t) refl;
}
  where
    none_yet : times_held t held ≡ 0
    none_yet = not_held t held (entry_of m t) (has.holds t) absent

    by_test : (q : List ℕ) (b : Bool) → bytes_eq q t ≡ b → times_held q (held ++ (t, h) ∷ []) ≤ 1
    by_test q true same =
        let none : times_held q held ≡ 0 = ap (λ u. times_held u held) ((bytes_eq-Decides q t).0 same) ∙ none_yet in
        omega (arith, times_held-push q t h held true same)
    by_test q false other = omega (arith, times_held-push q t h held false other, has.once q)

-- the first entry as the last
rotated_case : (q : List ℕ) (p : Held) (held : List Held) (o : Option Entry) → MatchOption o (times_held q (p ∷ held) ≡ 0) (Counts q (p ∷ held)) →
    MatchOption o (times_held q (held ++ p ∷ []) ≡ 0) (Counts q (held ++ p ∷ []))
rotated_case q p held None none = omega (arith, times_held-push q p.0 p.1 held (bytes_eq q p.0) refl, times_held-cons q p held (bytes_eq q p.0) refl)
rotated_case q p held (Some e) counts =
    let pushed = times_held-push q p.0 p.1 held (bytes_eq q p.0) refl in
    let before = times_held-cons q p held (bytes_eq q p.0) refl in
    record { count = counts.count ∙ omega arith; some = omega (arith, counts.some); handle = IsHeldAs-push q e.handle held p.0 p.1 counts.handle.1 counts.handle.0 }

pub HasEach-rotate : (m : TextMap) (p : Held) (held : List Held) → HasEach m (p ∷ held) → HasEach m (held ++ p ∷ [])
HasEach-rotate m p held has = record {
  holds = λ q. rotated_case q p held (entry_of m q) (has.holds q);
  once = λ q. omega (arith, times_held-push q p.0 p.1 held (bytes_eq q p.0) refl, times_held-cons q p held (bytes_eq q p.0) refl, has.once q);
}

-- the first entry is live
pub first_is_live : (m : TextMap) (t : List ℕ) (h : Handle) (held : List Held) → HasEach m ((t, h) ∷ held) → IsLive m h
first_is_live m t h held has = (t, front_has m held t h has.holds)

-- the entry of a text after a Kill of the first entry, where the test says whether it has its handle
kill_case : (q t : List ℕ) (h : Handle) (held : List Held) (o : Option Entry) → times_held t held ≡ 0 →
    (bytes_eq q t ≡ true → (e : Entry) × (o ≡ Some e) × (e.handle ≡ h)) → ((e : Entry) → o ≡ Some e → e.handle ≡ h → bytes_eq q t ≡ true) →
    MatchOption o (times_held q ((t, h) ∷ held) ≡ 0) (Counts q ((t, h) ∷ held)) →
    MatchOption (option_and_then (at_handle h (λ e. None)) o) (times_held q held ≡ 0) (Counts q held)
kill_case q t h held None none here only before = omega (arith, times_held-cons q (t, h) held (bytes_eq q t) refl)
kill_case q t h held (Some e) none here only before = by_test (handle_eq e.handle h) refl
  where
    by_test : (b : Bool) → handle_eq e.handle h ≡ b → MatchOption (cond b None (Some e)) (times_held q held ≡ 0) (Counts q held)
    by_test true is = ap (λ u. times_held u held) ((bytes_eq-Decides q t).0 (only e refl ((handle_eq-Decides e.handle h).0 is))) ∙ none
    by_test false is =
        let other : bytes_eq q t ≡ false = not_true (bytes_eq q t) (λ same. let found = here same in
        let equal : e ≡ found.0 = (let somes : Some e ≡ Some found.0 = found.1 in cc) in
        not_same _ ((handle_eq-Decides e.handle h).1 (ap (λ (x : Entry). x.handle) equal ∙ found.2)) is) in
        let fewer = times_held-cons q (t, h) held false other in
        record { count = before.count ∙ omega arith; some = omega (arith, before.some); handle = before.handle.1 }

-- the first entry is gone after its Kill, and the others stay
pub HasEach-kill : (m : TextMap) (held : List Held) (t : List ℕ) (h : Handle) → HasEach m ((t, h) ∷ held) → HandlesDiffer m → HasEach (next m (Kill h)) held
HasEach-kill m held t h has differ = record {
  holds = λ q. (let P : Option Entry → Type 0 = λ o. MatchOption o (times_held q held ≡ 0) (Counts q held) in
      subst P (sym (entry_of-next m (Kill h) q)) (kill_case q t h held (entry_of m q) none (here q) (only q) (has.holds q)));
  once = λ q. omega (arith, times_held-cons q (t, h) held (bytes_eq q t) refl, has.once q);
}
  where
    front : HasHandle m t h
    front = front_has m held t h has.holds

    none : times_held t held ≡ 0
    none = omega (arith, times_held-cons t (t, h) held true ((bytes_eq-Decides t t).1 refl), has.once t)

    here : (q : List ℕ) → bytes_eq q t ≡ true → (e : Entry) × (entry_of m q ≡ Some e) × (e.handle ≡ h)
    here q same = (front.0, ap (entry_of m) ((bytes_eq-Decides q t).0 same) ∙ front.1, front.2)

    only : (q : List ℕ) (e : Entry) → entry_of m q ≡ Some e → e.handle ≡ h → bytes_eq q t ≡ true
    only q e is same = (bytes_eq-Decides q t).1 (differ q t h (e, is, same) front)
