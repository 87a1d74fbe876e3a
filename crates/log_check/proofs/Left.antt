-- What is still open or unlinked at the end of a log stands in an event of it.
use Rattle.std.proofs.Common.{◌≡◌, ℕ, ◌<◌, Bool, true, false, cond, List, [], ◌∷◌, ◌&&◌, ◌||◌, Option, Some, None, refl, sym, ap, ◌∙◌, ◌↔◌}
use Rattle.std.specs.Prelude.{nat_eq, nat_lt}
use Rattle.std.specs.List.{list_all, list_any}
use Rattle.std.proofs.lemmas.Bool.Decides.{Decides-eqb, Decides-ltb}
use borrow.Author.Tests.{ltb-true}
use Rattle.intern_log.specs.declared.event.Event.{Event}
use Rattle.intern_log.specs.declared.event.What.{What}
use Rattle.intern_log.specs.declared.event.What.TheVariants.{Create, Take, Found, Drop, Perm, Kill, Claim, Free, Open, Close, Grace, Lock, Unlock, Unlink, ResizeTaken, ResizeGiven, Level, Rehash}
use Rattle.intern_log.specs.Now.{Phase, Vacant, Claimed, Linked, Unlinked, OpenSection, Now, opening, changed_by, now_after_event, now_after, now_of}
use Rattle.intern_log.specs.Lawful.{IsGracedSince}
use Rattle.intern_log.proofs.Slots.{neither}
use Rattle.intern_log.proofs.Graced.{otherwise}
use Rattle.log_check.specs.Parts.{own_section_by, slot_unlinked, is_unlinked_by, is_left_by, HasUnlinked}
use Rattle.log_check.proofs.PartLaws.{place_in, opened_in, follows_by_part}

-- whether a section that was opened there was opened after the place; so is none
abbrev pub is_later : ℕ → Option ℕ → Bool
is_later place None = true
is_later place (Some opened) = nat_lt place opened

-- by what a test answers
pub by_test : {A : Type 0} (b : Bool) → (b ≡ true → A) → (b ≡ false → A) → A
by_test true passes fails = passes refl
by_test false passes fails = fails refl

pub both_true : (b c : Bool) → (b && c) ≡ true → (b ≡ true) × (c ≡ true)
both_true true c is = (refl, is)
both_true false c is = absurd (cc)

other_seat : (test : ℕ → Bool) (k seat : ℕ) → test seat ≡ true → test k ≡ false → nat_eq k seat ≡ false
other_seat test k seat is not_k = by_test (nat_eq k seat) (λ same. let one : test k ≡ test seat = ap test ((Decides-eqb k seat).0 same) in absurd (cc)) (λ other. other)

-- the section of a seat that no event is of stays as it is
pub section_stays : (test : ℕ → Bool) (k : ℕ) (now : Now) (log : List Event) → list_all (λ (e : Event). test e.seat) log ≡ true → test k ≡ false →
    opened_in (now_after now log) k ≡ opened_in now k
section_stays test k now [] all not_k = refl
section_stays test k now (e ∷ log) all not_k =
    let parts = both_true (test e.seat) (list_all (λ (x : Event). test x.seat) log) all in
    section_stays test k (now_after_event now e) log parts.1 not_k
    ∙ (follows_by_part now e.seat e.what).section k
    ∙ ap (λ b. cond b (own_section_by (opened_in now k) now.place e.what) (opened_in now k)) (other_seat test k e.seat parts.0 not_k)

none_is_some : (opened : Option ℕ) (place : ℕ) → opened ≡ None → opened ≡ Some place → ⊥
none_is_some opened place none some = cc

later_is : (place : ℕ) (opened : Option ℕ) (at : ℕ) → opened ≡ Some at → is_later place opened ≡ true → place < at
later_is place opened at is later = ltb-true place at (ap (is_later place) (sym is) ∙ later)

later_where : (place : ℕ) (section : Option OpenSection) → ((o : OpenSection) → section ≡ Some o → place < o.place) → is_later place (place_in section) ≡ true
later_where place None after = refl
later_where place (Some o) after = (Decides-ltb place o.place).1 (after o refl)

pub all_true : (test : Event → Bool) → ((e : Event) → test e ≡ true) → (log : List Event) → list_all test log ≡ true
all_true test each [] = refl
all_true test each (e ∷ log) = ap (λ b. b && list_all test log) (each e) ∙ all_true test each log

-- each event's seat has closed what it opened up to the place exactly where every seat has
pub graced_by_events : (min_level : ℕ) (log : List Event) (place : ℕ) → (r : Bool) →
    r ≡ list_all (λ (e : Event). is_later place (opened_in (now_of min_level log) e.seat)) log → (r ≡ true) ↔ IsGracedSince (now_of min_level log) place
graced_by_events min_level log place r is = (
  (λ all k o opened. later_is place (opened_in (now_of min_level log) k) o.place (ap (λ (s : Option OpenSection). place_in s) opened)
      (otherwise _ (λ never. none_is_some (opened_in (now_of min_level log) k) o.place
      (section_stays (λ seat. is_later place (opened_in (now_of min_level log) seat)) k (opening min_level) log (sym is ∙ all) never)
      (ap (λ (s : Option OpenSection). place_in s) opened)))),
  (λ graced. is ∙ all_true (λ (e : Event). is_later place (opened_in (now_of min_level log) e.seat)) (λ e. later_where place ((now_of min_level log).section e.seat) (graced e.seat)) log),
)

left_is : (slot : ℕ → Phase) (i s p x : ℕ) → slot s ≡ Unlinked i p → s ≡ x → is_left_by i slot (Some x) ≡ false → ⊥
left_is slot i s p x left at other =
    let named : is_left_by i slot (Some s) ≡ true = ap (is_unlinked_by i) left ∙ (Decides-eqb i i).1 refl in
    let same : is_left_by i slot (Some s) ≡ is_left_by i slot (Some x) = ap (λ n. is_unlinked_by i (slot n)) at in
    absurd (cc (named, same, other))

vacant_is_not : (i p : ℕ) → Vacant ≡ Unlinked i p → ⊥
vacant_is_not i p is = cc

unlinked_by : (i : ℕ) (phase : Phase) → is_unlinked_by i phase ≡ true → (p : ℕ) × (phase ≡ Unlinked i p)
unlinked_by i Vacant is = absurd (cc)
unlinked_by i (Claimed owner) is = absurd (cc)
unlinked_by i (Linked t h born) is = absurd (cc)
unlinked_by i (Unlinked owner p) is = (p, ap (λ n. Unlinked n p) ((Decides-eqb owner i).0 is))

-- a phase that no event gives it was there before
kept_phase : (phase : Phase) (b : Bool) (was new : Phase) → cond b new was ≡ phase → (new ≡ phase → ⊥) → was ≡ phase
kept_phase phase true was new is other = absurd (other is)
kept_phase phase false was new is other = is

-- a slot that the seat has unlinked after an event was unlinked before it, or the event is its Unlink
unlinked_by_event : (slot : ℕ → Phase) (i s p : ℕ) → slot s ≡ Unlinked i p → (now : Now) (seat : ℕ) (what : What) →
    (changed_by now seat what).slot s ≡ Unlinked i p → is_left_by i slot (slot_unlinked what) ≡ false → now.slot s ≡ Unlinked i p
unlinked_by_event slot i s p left now seat (Create t h) is other = kept_phase (Unlinked i p) (nat_eq s h.slot) _ _ is (λ new. absurd (cc))
unlinked_by_event slot i s p left now seat (Claim x) is other = kept_phase (Unlinked i p) (nat_eq s x) _ _ is (λ new. absurd (cc))
unlinked_by_event slot i s p left now seat (Free x) is other = kept_phase (Unlinked i p) (nat_eq s x) _ _ is (λ new. absurd (cc))
unlinked_by_event slot i s p left now seat (Unlink x) is other =
    by_test (nat_eq s x) (λ same. absurd (left_is slot i s p x left ((Decides-eqb s x).0 same) other)) (λ apart. ap (λ b. cond b (Unlinked seat now.place) (now.slot s)) (sym apart) ∙ is)
unlinked_by_event slot i s p left now seat (Take t h) is other = is
unlinked_by_event slot i s p left now seat (Found t h) is other = is
unlinked_by_event slot i s p left now seat (Drop h) is other = is
unlinked_by_event slot i s p left now seat (Perm h) is other = is
unlinked_by_event slot i s p left now seat (Kill h) is other = is
unlinked_by_event slot i s p left now seat (Open c) is other = is
unlinked_by_event slot i s p left now seat Close is other = is
unlinked_by_event slot i s p left now seat Grace is other = is
unlinked_by_event slot i s p left now seat (Lock r b) is other = is
unlinked_by_event slot i s p left now seat (Unlock r b) is other = is
unlinked_by_event slot i s p left now seat ResizeTaken is other = is
unlinked_by_event slot i s p left now seat ResizeGiven is other = is
unlinked_by_event slot i s p left now seat (Level l) is other = is
unlinked_by_event slot i s p left now seat (Rehash n) is other = is

-- a slot that the seat has unlinked at the end, and that no Unlink names, was so before
unlinked_before : (slot : ℕ → Phase) (i s p : ℕ) → slot s ≡ Unlinked i p → (now : Now) (log : List Event) →
    (now_after now log).slot s ≡ Unlinked i p → list_any (λ (e : Event). is_left_by i slot (slot_unlinked e.what)) log ≡ false → now.slot s ≡ Unlinked i p
unlinked_before slot i s p left now [] is none = is
unlinked_before slot i s p left now (e ∷ log) is none =
    let parts = neither (is_left_by i slot (slot_unlinked e.what)) (list_any (λ (x : Event). is_left_by i slot (slot_unlinked x.what)) log) none in
    unlinked_by_event slot i s p left now e.seat e.what (unlinked_before slot i s p left (now_after_event now e) log is parts.1) parts.0

has_left : (i : ℕ) (slot : ℕ → Phase) (named : Option ℕ) → is_left_by i slot named ≡ true → (s : ℕ) × (p : ℕ) × (slot s ≡ Unlinked i p)
has_left i slot None is = absurd (cc)
has_left i slot (Some s) is = let by = unlinked_by i (slot s) is in (s, by.0, by.1)

left_in_log : (i : ℕ) (slot : ℕ → Phase) (log : List Event) → list_any (λ (e : Event). is_left_by i slot (slot_unlinked e.what)) log ≡ true → (s : ℕ) × (p : ℕ) × (slot s ≡ Unlinked i p)
left_in_log i slot [] is = absurd (cc)
left_in_log i slot (e ∷ log) is =
    by_test (is_left_by i slot (slot_unlinked e.what)) (λ here. has_left i slot (slot_unlinked e.what) here)
    (λ later. left_in_log i slot log (ap (λ b. b || list_any (λ (x : Event). is_left_by i slot (slot_unlinked x.what)) log) (sym later) ∙ is))

-- some Unlink is of a slot that the seat has unlinked exactly where there is such a slot
pub left_by_events : (min_level : ℕ) (log : List Event) (i : ℕ) (r : Bool) →
    r ≡ list_any (λ (e : Event). is_left_by i (now_of min_level log).slot (slot_unlinked e.what)) log → (r ≡ true) ↔ HasUnlinked (now_of min_level log) i
left_by_events min_level log i r is = (
  (λ any. left_in_log i (now_of min_level log).slot log (sym is ∙ any)),
  (λ has. is ∙ otherwise _ (λ none. vacant_is_not i has.1 (unlinked_before (now_of min_level log).slot i has.0 has.1 has.2 (opening min_level) log has.2 none))),
)
