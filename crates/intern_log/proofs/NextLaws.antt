-- The map after one event, by the entry that was there.
use Rattle.std.proofs.Common.{◌≡◌, ◌≢◌, ℕ, ◌+◌, ◌-◌, ◌<◌, ◌==◌, nat_le, min, cond, List, Option, Some, None, ap, ◌∙◌}
use native.Mathlib.Omega.{arith}
use Rattle.std.specs.Option.{option_map}
use Rattle.std.proofs.lemmas.Bool.{lt-leb, le-leb}
use Rattle.std.proofs.lemmas.Bool.Decides.{Decides-eqb}
use Rattle.intern_log.specs.declared.event.Handle.{Handle}
use Rattle.intern_log.specs.declared.event.Entry.{Entry}
use Rattle.intern_log.specs.declared.event.What.TheVariants.{Take}
use Rattle.intern_log.specs.TextMap.{TextMap, entry_of, handle_eq, alter, at_handle}
use Rattle.intern_log.specs.Log.{next, raised, lowered}
use Rattle.intern_log.proofs.Handles.{handle_eq-Decides}
use Rattle.intern_log.proofs.EntryLaws.{put_there, altered_some, chosen, not_chosen}

pub raised_below : (e : Entry) → e.count < 65535 → raised e ≡ record { handle = e.handle; count = e.count + 1 }
raised_below e below = let least : min (e.count + 1) 65535 ≡ e.count + 1 = omega (arith, below) in ap (λ n. record { handle = e.handle; count = n }) least

pub raised_stays : (e : Entry) → e.count ≡ 65535 → raised e ≡ e
raised_stays e is = let least : min (e.count + 1) 65535 ≡ e.count = omega (arith, is) in ap (λ n. record { handle = e.handle; count = n }) least

pub after_take : (m : TextMap) (text : List ℕ) (h : Handle) (e f : Entry) → entry_of m text ≡ Some e → raised e ≡ f → entry_of (next m (Take text h)) text ≡ Some f
after_take m text h e f is made = put_there m text (option_map raised (entry_of m text)) ∙ ap (option_map raised) is ∙ ap Some made

pub there : (m : TextMap) (text : List ℕ) (h : Handle) (e : Entry) (change : Entry → Option Entry) (left : Option Entry) → entry_of m text ≡ Some e → e.handle ≡ h → change e ≡ left →
    entry_of (alter (at_handle h change) m) text ≡ left
there m text h e change left is at made =
    altered_some m (at_handle h change) text e is ∙ chosen (e.handle ≡ h) (handle_eq e.handle h) (change e) (Some e) (handle_eq-Decides e.handle h) at ∙ made

pub elsewhere : (m : TextMap) (text : List ℕ) (h : Handle) (e : Entry) (change : Entry → Option Entry) → entry_of m text ≡ Some e → e.handle ≢ h → entry_of (alter (at_handle h change) m) text ≡ Some e
elsewhere m text h e change is differ =
    altered_some m (at_handle h change) text e is ∙ not_chosen (e.handle ≡ h) (handle_eq e.handle h) (change e) (Some e) (handle_eq-Decides e.handle h) differ

abbrev less : Entry → Entry
less e = record { handle = e.handle; count = e.count - 1 }

not_permanent : (e : Entry) (x y : Option Entry) → e.count < 65535 → cond (e.count == 65535) x y ≡ y
not_permanent e x y below = not_chosen (e.count ≡ 65535) (e.count == 65535) x y (Decides-eqb e.count 65535) (λ is. omega (arith, is, below))

pub lowered_falls : (e : Entry) → 1 < e.count → e.count < 65535 → lowered e ≡ Some (less e)
lowered_falls e above below = not_permanent e (Some e) (cond (nat_le e.count 1) None (Some (less e))) below ∙ ap {B = Option Entry} (λ b. cond b None (Some (less e))) (lt-leb e.count 1 above)

pub lowered_gone : (e : Entry) → e.count ≡ 1 → lowered e ≡ None
lowered_gone e is = not_permanent e (Some e) (cond (nat_le e.count 1) None (Some (less e))) (omega (arith, is)) ∙ ap {B = Option Entry} (λ b. cond b None (Some (less e))) (le-leb e.count 1 (omega (arith, is)))

pub lowered_stays : (e : Entry) → e.count ≡ 65535 → lowered e ≡ Some e
lowered_stays e is = chosen (e.count ≡ 65535) (e.count == 65535) (Some e) (cond (nat_le e.count 1) None (Some (less e))) (Decides-eqb e.count 65535) is
