-- Where nothing is going on, by the events of a log.
use Rattle.std.proofs.Common.{◌≡◌, ℕ, Bool, true, false, cond, List, [], ◌∷◌, ◌&&◌, drop, length, ◌≤◌, Option, Some, None, refl, sym, ap, subst, ◌∙◌, ◌↔◌}
use Rattle.std.specs.Prelude.{nat_eq, is_none}
use Rattle.std.specs.List.{list_all, list_any}
use Rattle.std.proofs.lemmas.Bool.Decides.{Decides-eqb}
use Rattle.std.proofs.Math.ListN.{drop_of_length-le}
use Rattle.intern_log.specs.declared.event.Event.{Event}
use Rattle.intern_log.specs.declared.event.What.{What}
use Rattle.intern_log.specs.declared.event.What.TheVariants.{Create, Claim, Free, Lock, Unlock, Unlink, Level}
use Rattle.intern_log.specs.Now.{Phase, Vacant, Claimed, Linked, Unlinked, OpenSection, Now, opening, now_after_event, now_after, now_of}
use Rattle.intern_log.specs.Lawful.{IsLinkedDead}
use Rattle.intern_log.proofs.Slots.{neither}
use Rattle.intern_log.proofs.Graced.{otherwise, or_false}
use Rattle.log_check.specs.declared.past.SlotPhase.{SlotPhase}
use Rattle.log_check.specs.declared.past.SlotPhase.TheVariants as seen
use Rattle.log_check.specs.Parts.{phase_seen, phase_by, lock_by, leaves_unlocked, NamesDead, AreClosed, AreUnlocked, AreLive}
use Rattle.log_check.proofs.PartLaws.{place_in, opened_in, follows_by_part}
use Rattle.log_check.proofs.Left.{by_test, both_true, section_stays, all_true}

none_is_none : (o : Option ℕ) → o ≡ None → is_none o ≡ false → ⊥
none_is_none o none is = cc

closed_where : (section : Option OpenSection) → is_none (place_in section) ≡ true → section ≡ None
closed_where None is = refl
closed_where (Some o) is = absurd (cc)

none_at : (section : Option OpenSection) → section ≡ None → is_none (place_in section) ≡ true
none_at section is = ap (λ (s : Option OpenSection). is_none (place_in s)) is

-- each event's seat has its section closed exactly where every seat has
pub closed_by_events : (min_level : ℕ) (log : List Event) (r : Bool) →
    r ≡ list_all (λ (e : Event). is_none (opened_in (now_of min_level log) e.seat)) log → (r ≡ true) ↔ AreClosed (now_of min_level log)
closed_by_events min_level log r is = (
  (λ all k. closed_where ((now_of min_level log).section k) (otherwise _ (λ opened. none_is_none (opened_in (now_of min_level log) k)
      (section_stays (λ seat. is_none (opened_in (now_of min_level log) seat)) k (opening min_level) log (sym is ∙ all) opened) opened))),
  (λ closed. is ∙ all_true (λ (e : Event). is_none (opened_in (now_of min_level log) e.seat)) (λ e. none_at ((now_of min_level log).section e.seat) (closed e.seat)) log),
)

-- whether the event is a Lock of the bucket
abbrev locks : ℕ → ℕ → What → Bool
locks row bucket (Lock r b) = nat_eq row r && nat_eq bucket b
locks row bucket _ = false

other_lock : (b : Bool) (seat : ℕ) → b ≡ false → cond b (Some seat) None ≡ None
other_lock b seat other = ap (λ c. cond c (Some seat) None) other

abbrev nobody : Option ℕ
nobody = None

no_lock_of_two : (b : Bool) → cond b nobody None ≡ None
no_lock_of_two true = refl
no_lock_of_two false = refl

still_unlocked : (row bucket seat : ℕ) (what : What) → locks row bucket what ≡ false → lock_by row bucket None seat what ≡ None
still_unlocked row bucket seat (Lock r b) other = other_lock (nat_eq row r && nat_eq bucket b) seat other
still_unlocked row bucket seat (Unlock r b) other = no_lock_of_two (nat_eq row r && nat_eq bucket b)
still_unlocked row bucket seat (Level l) other = no_lock_of_two (nat_eq row l)
still_unlocked row bucket seat _ other = refl

-- a bucket that no event locks stays unlocked
unlocked_stays : (row bucket : ℕ) (now : Now) (log : List Event) → list_any (λ (e : Event). locks row bucket e.what) log ≡ false →
    now.lock row bucket ≡ None → (now_after now log).lock row bucket ≡ None
unlocked_stays row bucket now [] none is = is
unlocked_stays row bucket now (e ∷ log) none is =
    let parts = neither (locks row bucket e.what) (list_any (λ (x : Event). locks row bucket x.what) log) none in
    unlocked_stays row bucket (now_after_event now e) log parts.1
    ((follows_by_part now e.seat e.what).lock row bucket ∙ ap (λ owner. lock_by row bucket owner e.seat e.what) is ∙ still_unlocked row bucket e.seat e.what parts.0)

locked_is_not : (lock : ℕ → ℕ → Option ℕ) (row bucket k r b : ℕ) → lock row bucket ≡ Some k → is_none (lock r b) ≡ true → row ≡ r → bucket ≡ b → ⊥
locked_is_not lock row bucket k r b locked none rows buckets =
    let here : lock row bucket ≡ lock r b = ap (λ n. lock n bucket) rows ∙ ap (lock r) buckets in
    let some : is_none (lock r b) ≡ false = ap is_none (sym here ∙ locked) in absurd (cc)

no_lock_by : (lock : ℕ → ℕ → Option ℕ) (row bucket k : ℕ) → lock row bucket ≡ Some k → (what : What) → leaves_unlocked lock what ≡ true → locks row bucket what ≡ false
no_lock_by lock row bucket k locked (Lock r b) leaves =
    by_test (nat_eq row r && nat_eq bucket b)
    (λ same. let both = both_true (nat_eq row r) (nat_eq bucket b) same in
    absurd (locked_is_not lock row bucket k r b locked leaves ((Decides-eqb row r).0 both.0) ((Decides-eqb bucket b).0 both.1)))
    (λ other. other)
no_lock_by lock row bucket k locked _ leaves = refl

no_lock_in : (lock : ℕ → ℕ → Option ℕ) (row bucket k : ℕ) → lock row bucket ≡ Some k → (log : List Event) →
    list_all (λ (e : Event). leaves_unlocked lock e.what) log ≡ true → list_any (λ (e : Event). locks row bucket e.what) log ≡ false
no_lock_in lock row bucket k locked [] all = refl
no_lock_in lock row bucket k locked (e ∷ log) all =
    let parts = both_true (leaves_unlocked lock e.what) (list_all (λ (x : Event). leaves_unlocked lock x.what) log) all in
    or_false _ _ (no_lock_by lock row bucket k locked e.what parts.0) (no_lock_in lock row bucket k locked log parts.1)

no_bucket_locked : (min_level : ℕ) (log : List Event) (row bucket : ℕ) → list_all (λ (e : Event). leaves_unlocked (now_of min_level log).lock e.what) log ≡ true →
    (owner : Option ℕ) → (now_of min_level log).lock row bucket ≡ owner → (now_of min_level log).lock row bucket ≡ None
no_bucket_locked min_level log row bucket all None is = is
no_bucket_locked min_level log row bucket all (Some k) is = unlocked_stays row bucket (opening min_level) log (no_lock_in (now_of min_level log).lock row bucket k is log all) refl

leaves_none : (lock : ℕ → ℕ → Option ℕ) → ((row bucket : ℕ) → lock row bucket ≡ None) → (what : What) → leaves_unlocked lock what ≡ true
leaves_none lock none (Lock r b) = ap is_none (none r b)
leaves_none lock none _ = refl

-- no event is a Lock of a locked bucket exactly where no bucket is locked
pub unlocked_by_events : (min_level : ℕ) (log : List Event) (r : Bool) →
    r ≡ list_all (λ (e : Event). leaves_unlocked (now_of min_level log).lock e.what) log → (r ≡ true) ↔ AreUnlocked (now_of min_level log)
unlocked_by_events min_level log r is = (
  (λ all row bucket. no_bucket_locked min_level log row bucket (sym is ∙ all) ((now_of min_level log).lock row bucket) refl),
  (λ none. is ∙ all_true (λ (e : Event). leaves_unlocked (now_of min_level log).lock e.what) (λ e. leaves_none (now_of min_level log).lock none e.what) log),
)

-- no event names a slot in a chain whose entry is gone
abbrev pub NoneNamed : Now → List Event → Type 0
NoneNamed now [] = Unit {0}
NoneNamed now (e ∷ log) = (¬ (NamesDead now e.what)) × NoneNamed now log

abbrev linked_seen : SlotPhase → Bool
linked_seen (seen.Linked h) = true
linked_seen _ = false

-- whether the event is a Create in the slot
abbrev creates_in : ℕ → What → Bool
creates_in s (Create t h) = nat_eq s h.slot
creates_in s _ = false

neither_linked : (b : Bool) (x y : SlotPhase) → linked_seen x ≡ false → linked_seen y ≡ false → linked_seen (cond b x y) ≡ false
neither_linked true x y first second = first
neither_linked false x y first second = second

other_phase : (b : Bool) (x y : SlotPhase) → b ≡ false → linked_seen y ≡ false → linked_seen (cond b x y) ≡ false
other_phase b x y other is = ap (λ c. linked_seen (cond c x y)) other ∙ is

still_unlinked : (s : ℕ) (phase : SlotPhase) (place seat : ℕ) (what : What) → creates_in s what ≡ false → linked_seen phase ≡ false → linked_seen (phase_by s phase place seat what) ≡ false
still_unlinked s phase place seat (Create t h) other is = other_phase (nat_eq s h.slot) (seen.Linked h) phase other is
still_unlinked s phase place seat (Claim x) other is = neither_linked (nat_eq s x) (seen.Claimed seat) phase refl is
still_unlinked s phase place seat (Free x) other is = neither_linked (nat_eq s x) seen.Vacant phase refl is
still_unlinked s phase place seat (Unlink x) other is = neither_linked (nat_eq s x) (seen.Unlinked seat place) phase refl is
still_unlinked s phase place seat _ other is = is

-- a slot in which no event creates stays out of the chains
unlinked_stays : (s : ℕ) (now : Now) (log : List Event) → list_any (λ (e : Event). creates_in s e.what) log ≡ false →
    linked_seen (phase_seen (now.slot s)) ≡ false → linked_seen (phase_seen ((now_after now log).slot s)) ≡ false
unlinked_stays s now [] none is = is
unlinked_stays s now (e ∷ log) none is =
    let parts = neither (creates_in s e.what) (list_any (λ (x : Event). creates_in s x.what) log) none in
    unlinked_stays s (now_after_event now e) log parts.1
    (ap linked_seen ((follows_by_part now e.seat e.what).phase s) ∙ still_unlinked s (phase_seen (now.slot s)) now.place e.seat e.what parts.0 is)

no_create_by : (now : Now) (s : ℕ) → IsLinkedDead now (now.slot s) → (what : What) → (¬ (NamesDead now what)) → creates_in s what ≡ false
no_create_by now s dead (Create t h) none =
    by_test (nat_eq s h.slot) (λ same. absurd (none (subst (λ x. IsLinkedDead now (now.slot x)) ((Decides-eqb s h.slot).0 same) dead))) (λ other. other)
no_create_by now s dead _ none = refl

no_create_in : (now : Now) (s : ℕ) → IsLinkedDead now (now.slot s) → (log : List Event) → NoneNamed now log → list_any (λ (e : Event). creates_in s e.what) log ≡ false
no_create_in now s dead [] none = refl
no_create_in now s dead (e ∷ log) none = or_false _ _ (no_create_by now s dead e.what none.0) (no_create_in now s dead log none.1)

dead_is_linked : (now : Now) (phase : Phase) → IsLinkedDead now phase → linked_seen (phase_seen phase) ≡ true
dead_is_linked now (Linked t h born) dead = refl
dead_is_linked now Vacant dead = absurd dead
dead_is_linked now (Claimed i) dead = absurd dead
dead_is_linked now (Unlinked i p) dead = absurd dead

-- where no event names a slot whose entry is gone, there is none
pub live_by_events : (min_level : ℕ) (log : List Event) → NoneNamed (now_of min_level log) log → AreLive (now_of min_level log)
live_by_events min_level log none s dead =
    let linked = dead_is_linked (now_of min_level log) ((now_of min_level log).slot s) dead in
    let unlinked = unlinked_stays s (opening min_level) log (no_create_in (now_of min_level log) s dead log none) refl in
    absurd (cc (linked, unlinked))

pub named_is_dead : (now : Now) (what : What) → NamesDead now what → ¬ (AreLive now)
named_is_dead now (Create t h) dead live = live h.slot dead
named_is_dead now _ dead live = absurd dead

-- after the last event none is left
pub past_end : (now : Now) (i : ℕ) (log : List Event) → length log ≤ i → NoneNamed now (drop i log)
past_end now i log end = subst (NoneNamed now) (sym (drop_of_length-le log end)) tt
