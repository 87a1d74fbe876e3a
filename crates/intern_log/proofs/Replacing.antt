-- The level, the place after the last Level, and the row that is being replaced.
use Rattle.std.proofs.Common.{◌≡◌, ℕ, ◌+◌, Bool, true, false, ◌||◌, List, [], ◌∷◌, ◌++◌, length, ◌⊎◌, ◌↔◌, Option, Some, None, inl, inr, refl, sym, ap, subst, ◌∙◌}
use Rattle.std.specs.List.{list_any}
use Rattle.std.specs.Option.{option_map}
use Rattle.std.proofs.lemmas.List.Folds.{list_any-append}
use Rattle.intern_log.specs.declared.event.Event.{Event}
use Rattle.intern_log.specs.declared.event.What.{What}
use Rattle.intern_log.specs.declared.event.What.TheVariants.{Lock, ResizeTaken, ResizeGiven, Level}
use Rattle.intern_log.specs.declared.event.TableKind.{TableKind}
use Rattle.intern_log.specs.Now.{Resizing, Now, resizing_after_lock, opening, changed_by, now_after_event, now_after, now_of}
use Rattle.intern_log.specs.Lawful.{MayFollow, IsAllowedFrom, IsLawful}
use Rattle.intern_log.specs.Sections.{with_event}
use Rattle.intern_log.specs.Orderly.{is_resize_given, level_after_event, level_after, locks_other_row, some_lock_other_row, IsResizingAs, IsBeingReplaced}
use Rattle.intern_log.specs.Touches.{is_level}
use Rattle.intern_log.proofs.LawfulLaws.{IsAllowedFrom-rest}
use Rattle.intern_log.proofs.Slots.{neither}
use Rattle.intern_log.proofs.Graced.{said}
use Rattle.intern_log.proofs.OrderlyLaws.{carried, pushed, still_none, event_is, place_next, level-event, level_is}
use Rattle.intern_log.proofs.OneMore.{place_is}
use Rattle.intern_log.proofs.Stays.{since_unchanged}

pub since_kept : (now : Now) (log : List Event) → list_any (λ (e : Event). is_level e.what) log ≡ false → (now_after now log).since ≡ now.since
since_kept now [] none = refl
since_kept now (e ∷ log) none =
    let parts = neither (is_level e.what) _ none in
    since_kept (now_after_event now e) log parts.1 ∙ since_unchanged now e.seat e.what parts.0

pub since_is : (min_level : ℕ) (log front back : List Event) (k level : ℕ) → log ≡ with_event front k (Level level) back →
    list_any (λ (e : Event). is_level e.what) back ≡ false → (now_of min_level log).since ≡ length front + 1
since_is min_level log front back k level is none =
    ap (λ l. (now_of min_level l).since) is
    ∙ ap (λ (n : Now). n.since) (said (opening min_level) front k (Level level) back)
    ∙ since_kept (now_after_event (now_of min_level front) (record { seat = k; what = Level level })) back none
    ∙ ap (λ n. n + 1) (place_is min_level front)

-- a test of two, of which the second answers false
first_alone : (b : Bool) → b ≡ (b || false)
first_alone true = refl
first_alone false = refl

or_three : (a b c : Bool) → ((a || b) || c) ≡ (a || (b || c))
or_three true b c = refl
or_three false b c = refl

-- a resizing with one more reason to be replacing
abbrev marked_by : Resizing → Bool → Resizing
marked_by r b = record r { replacing = r.replacing || b }

unmarked : (r : Resizing) → r ≡ marked_by r false
unmarked r = ap (λ b. record r { replacing = b }) (first_alone r.replacing)

-- whether the resizing's owner has locked a bucket of another row in the log
abbrev has_locked : Resizing → List Event → Bool
has_locked r log = some_lock_other_row r.seat r.level log

resizing_next : (table : TableKind) (now : Now) (seat : ℕ) (what : What) (r : Resizing) → now.resizing ≡ Some r → MayFollow table now seat what → is_resize_given what ≡ false →
    (changed_by now seat what).resizing ≡ Some (marked_by r (locks_other_row r.seat r.level seat what))
resizing_next table now seat (Lock row b) r is may kept = ap (option_map (resizing_after_lock seat row)) is
resizing_next table now seat ResizeTaken r is may kept = absurd (cc)
resizing_next table now seat ResizeGiven r is may kept = absurd (cc)
resizing_next table now seat _ r is may kept = is ∙ ap Some (unmarked r)

-- the resizing until the lock is given back
resizing_until_given : (table : TableKind) (now : Now) (log : List Event) (r : Resizing) → now.resizing ≡ Some r → IsAllowedFrom table now log →
    list_any (λ (e : Event). is_resize_given e.what) log ≡ false → (now_after now log).resizing ≡ Some (marked_by r (has_locked r log))
resizing_until_given table now [] r is allowed none = is ∙ ap Some (unmarked r)
resizing_until_given table now (e ∷ log) r is allowed none =
    let parts = neither (is_resize_given e.what) _ none in
    let here = locks_other_row r.seat r.level e.seat e.what in
    resizing_until_given table (now_after_event now e) log (marked_by r here) (resizing_next table now e.seat e.what r is allowed.0 parts.0) allowed.1 parts.1
    ∙ ap (λ b. Some (record r { replacing = b })) (or_three r.replacing here (has_locked r log))

-- the resizing is as the log has it
abbrev IsTakenAs : ℕ → List Event → Resizing → Type 0
IsTakenAs min_level log r = IsResizingAs min_level log r.seat r.place r.level r.replacing

-- where a resizing after an event comes from
abbrev ResizingFrom : Now → ℕ → What → Resizing → Type 0
ResizingFrom now seat what s =
    ((what ≡ ResizeTaken) × (record { seat = seat; place = now.place; level = now.level; replacing = false } ≡ s))
    ⊎ ((r : Resizing) × (now.resizing ≡ Some r) × (is_resize_given what ≡ false) × (marked_by r (locks_other_row r.seat r.level seat what) ≡ s))

pub one_resizing : (r s : Resizing) → Some r ≡ Some s → r ≡ s
one_resizing r s is = cc

from_lock : (seat row : ℕ) (o : Option Resizing) (s : Resizing) → option_map (resizing_after_lock seat row) o ≡ Some s → (r : Resizing) × (o ≡ Some r) × (resizing_after_lock seat row r ≡ s)
from_lock seat row None s is = absurd (cc)
from_lock seat row (Some r) s is = (r, refl, one_resizing _ s is)

resizing_from : (now : Now) (seat : ℕ) (what : What) (s : Resizing) → (changed_by now seat what).resizing ≡ Some s → ResizingFrom now seat what s
resizing_from now seat (Lock row b) s is = let was = from_lock seat row now.resizing s is in inr (was.0, was.1, refl, was.2)
resizing_from now seat ResizeTaken s is = inl (refl, one_resizing _ s is)
resizing_from now seat ResizeGiven s is = absurd (cc)
resizing_from now seat _ s is = inr (s, is, refl, sym (unmarked s))

-- the place and the level of the log, and how its resizing came about
record Tied (min_level : ℕ) (log : List Event) (now : Now) : Type 0 where
  place : now.place ≡ length log
  level : now.level ≡ level_after min_level log
  taken : (r : Resizing) → now.resizing ≡ Some r → IsTakenAs min_level log r

level_after-append : (level : ℕ) (xs ys : List Event) → level_after level (xs ++ ys) ≡ level_after (level_after level xs) ys
level_after-append level [] ys = refl
level_after-append level (x ∷ xs) ys = level_after-append (level_after_event level x.what) xs ys

tied_next : (table : TableKind) (min_level : ℕ) (done : List Event) (now : Now) (e : Event) → MayFollow table now e.seat e.what → Tied min_level done now →
    Tied min_level (done ++ e ∷ []) (now_after_event now e)
tied_next table min_level done now e may tied = record {
  place = place_next done now e tied.place;
  level = level-event now e.seat e.what ∙ ap (λ l. level_after_event l e.what) tied.level ∙ sym (level_after-append min_level done (e ∷ []));
  taken = λ s is. elim (resizing_from now e.seat e.what s is) [
    | inl new ↦ subst (IsTakenAs min_level (done ++ e ∷ [])) new.1
        (done, [], event_is e e.seat ResizeTaken new.0 refl done, sym tied.place, refl, sym tied.level, refl)
    | inr old ↦ subst (IsTakenAs min_level (done ++ e ∷ [])) old.3 (kept old.0 (tied.taken old.0 old.1) old.2)
  ];
}
  where
    kept : (r : Resizing) → IsTakenAs min_level done r → is_resize_given e.what ≡ false →
        IsTakenAs min_level (done ++ e ∷ []) (marked_by r (locks_other_row r.seat r.level e.seat e.what))
    kept r was ungiven = (
      was.0,
      was.1 ++ e ∷ [],
      pushed was.0 was.1 r.seat ResizeTaken e done was.2,
      was.3,
      still_none (λ (x : Event). is_resize_given x.what) was.1 e was.4 ungiven,
      was.5,
      list_any-append _ was.1 (e ∷ []) ∙ ap (λ b. b || (locks_other_row r.seat r.level e.seat e.what || false)) was.6
          ∙ ap (λ b. r.replacing || b) (sym (first_alone (locks_other_row r.seat r.level e.seat e.what))),
    )

pub resizing_of_log : (table : TableKind) (log : List Event) (r : Resizing) → IsLawful table log →
    (now_of table.min_level log).resizing ≡ Some r ↔ IsResizingAs table.min_level log r.seat r.place r.level r.replacing
resizing_of_log table log r lawful = (
  (λ is. (carried table (Tied table.min_level) (tied_next table table.min_level) [] log (opening table.min_level) lawful.allowed
      (record { place = refl; level = refl; taken = λ s none. absurd (cc) })).taken r is),
  (λ (front, back, is, placed, none, level, locked).
      let start = opening table.min_level in
      let whole = subst (IsAllowedFrom table start) is lawful.allowed in
      let taken = now_after_event (now_after start front) (record { seat = r.seat; what = ResizeTaken }) in
      let first : Resizing = record { seat = r.seat; place = (now_after start front).place; level = (now_after start front).level; replacing = false } in
      ap (λ (n : Now). n.resizing) (ap (now_after start) is ∙ said start front r.seat ResizeTaken back)
      ∙ resizing_until_given table taken back first refl (IsAllowedFrom-rest table start front _ whole).1 none
      ∙ ap Some (same_parts r (now_after start front).place (now_after start front).level back
      (place_is table.min_level front ∙ placed) (level_is start front ∙ level) locked)),
)
  where
    same_parts : (r : Resizing) (place level : ℕ) (back : List Event) → place ≡ r.place → level ≡ r.level → some_lock_other_row r.seat r.level back ≡ r.replacing →
        record { seat = r.seat; place = place; level = level; replacing = some_lock_other_row r.seat level back } ≡ r
    same_parts r place level back at from locked i = record {
      seat = r.seat;
      place = at i;
      level = from i;
      replacing = (ap (λ l. some_lock_other_row r.seat l back) from ∙ locked) i;
    }

pub replaced_is : (table : TableKind) (log : List Event) (row : ℕ) → IsLawful table log →
    IsBeingReplaced table.min_level log row ↔ ((r : Resizing) × ((now_of table.min_level log).resizing ≡ Some r) × (r.level ≡ row) × (r.replacing ≡ true))
replaced_is table log row lawful = (
  (λ (k, place, taken).
      let r : Resizing = record { seat = k; place = place; level = row; replacing = true } in
      (r, (resizing_of_log table log r lawful).1 taken, refl, refl)),
  (λ (r, is, level, replacing). (
    r.seat,
    r.place,
    subst (λ b. IsResizingAs table.min_level log r.seat r.place row b) replacing
        (subst (λ l. IsResizingAs table.min_level log r.seat r.place l r.replacing) level ((resizing_of_log table log r lawful).0 is)),
  )),
)
