-- What an event does to a map, as a change at one text.
use Rattle.std.proofs.Common.{◌≡◌, ℕ, ◌-◌, ◌<◌, ◌≤◌, ◌==◌, nat_le, Bool, true, false, cond, List, Option, Some, None, refl, sym, ap, ◌∙◌, arith}
use Rattle.std.proofs.lemmas.Bool.{false_from_ne_true, leb-false}
use Rattle.std.proofs.lemmas.Bool.Decides.{nat_tests, Decides-eqb}
use Rattle.std.specs.Bool.{Decides}
use Rattle.std.specs.Str.{bytes_eq}
use Rattle.std.proofs.lemmas.Slice.Eq.{bytes_eq-Decides}
use Rattle.std.specs.Option.{option_and_then}
use Rattle.intern_log.specs.declared.event.Handle.{Handle}
use Rattle.intern_log.specs.declared.event.Entry.{Entry}
use Rattle.intern_log.specs.TextMap.{TextMap, entry_of, put_at, alter, at_handle, handle_eq}
use Rattle.intern_log.specs.Log.{raised, lowered, HandlesDiffer}
use Rattle.intern_log.proofs.Entries.{entry_of-put_at, entry_of-alter, same_entries}
use Rattle.intern_log.proofs.Handles.{handle_eq-Decides, same_as_itself}

-- the change of one entry, where only the entry of t has the handle
changed : (change : Entry → Option Entry) (h : Handle) (t q : List ℕ) (e : Entry) (o : Option Entry) (b : Bool) → Decides b (q ≡ t) → e.handle ≡ h
    → (q ≡ t → o ≡ Some e) → ((f : Entry) → o ≡ Some f → f.handle ≡ h → q ≡ t) → cond b (change e) o ≡ option_and_then (at_handle h change) o
changed change h t q e o true decided is here only =
    rw (here (decided.0 refl)) (rw is (rw (same_as_itself h) refl))
changed change h t q e None false decided is here only = refl
changed change h t q e (Some f) false decided is here only =
    sym (ap (λ b. cond b (change f) (Some f)) (false_from_ne_true (handle_eq f.handle h) (λ (same : handle_eq f.handle h ≡ true). absurd (cc (decided.1 (only f refl ((handle_eq-Decides f.handle h).0 same)))))))

-- a change of the entry with a handle is that of its text
pub put_at-is_alter : (change : Entry → Option Entry) (m : TextMap) (t : List ℕ) (e : Entry) (h : Handle) → HandlesDiffer m
    → entry_of m t ≡ Some e → e.handle ≡ h → put_at m t (change e) ≡ alter (at_handle h change) m
put_at-is_alter change m t e h differ there is = same_entries _ _ (λ q.
    entry_of-put_at m t (change e) q
    ∙ changed change h t q e (entry_of m q) (bytes_eq q t) (bytes_eq-Decides q t) is (λ same. ap (entry_of m) same ∙ there)
    (λ f f_is same. differ q t h (f, f_is, same) (e, there, is))
    ∙ sym (entry_of-alter (at_handle h change) m q))

-- what is written again is as it was
pub put_same : (m : TextMap) (t : List ℕ) (o : Option Entry) → entry_of m t ≡ o → put_at m t o ≡ m
put_same m t o there = same_entries _ _ (λ q. entry_of-put_at m t o q ∙ again q (bytes_eq q t) (bytes_eq-Decides q t))
  where
    again : (q : List ℕ) (b : Bool) → Decides b (q ≡ t) → cond b o (entry_of m q) ≡ entry_of m q
    again q true decided = sym (ap (entry_of m) (decided.0 refl) ∙ there)
    again q false decided = refl

-- an entry with one more hold has a hold, and so has what one with a hold less leaves
pub raised_counted : (e : Entry) → 1 ≤ (raised e).count
raised_counted e = grind (arith, nat_tests)

pub lowered_counted : (e f : Entry) → lowered e ≡ Some f → 1 ≤ f.count
lowered_counted e f is = counted (e.count == 65535) (Decides-eqb e.count 65535).0 (nat_le e.count 1) (leb-false e.count 1) is
  where
    counted : (permanent : Bool) → (permanent ≡ true → e.count ≡ 65535) → (last : Bool) → (last ≡ false → 1 < e.count)
        → cond permanent (Some e) (cond last None (Some (record e { count = e.count - 1 }))) ≡ Some f → 1 ≤ f.count
    counted true full last more is = let same : e ≡ f = cc in omega (arith, ap (λ (x : Entry). x.count) same, full refl)
    counted false full true more is = absurd (cc)
    counted false full false more is = let same : record e { count = e.count - 1 } ≡ f = cc in omega (arith, ap (λ (x : Entry). x.count) same, more refl)
