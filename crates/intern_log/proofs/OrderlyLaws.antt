-- A lawful log is orderly.
use Rattle.std.proofs.Common.{◌≡◌, ℕ, Bool, false, List, [], ◌∷◌, ◌++◌, length, ◌&&◌, cond, ◌+◌, ◌*◌, ◌≤◌, ◌⊎◌, Option, Some, None, refl, sym, ap, subst, ◌∙◌}
use native.Mathlib.Omega.{arith}
use Rattle.std.specs.Prelude.{nat_eq}
use Rattle.std.specs.List.{list_any}
use Rattle.std.proofs.lemmas.Bool.Decides.{Decides-eqb}
use Rattle.std.proofs.lemmas.List.{append_assoc, append-nil, length-append}
use Rattle.std.proofs.lemmas.List.Folds.{list_any-append}
use Rattle.std.proofs.lemmas.List.Sums.{sum_by-cons}
use Rattle.intern_log.specs.declared.event.Event.{Event}
use Rattle.intern_log.specs.declared.event.What.{What}
use Rattle.intern_log.specs.declared.event.What.TheVariants.{Create, Take, Found, Drop, Perm, Kill, Claim, Free, Open, Close, Grace, Lock, Unlock, Unlink, ResizeTaken, ResizeGiven, Level, Rehash}
use Rattle.intern_log.specs.Counts.{events_in}
use Rattle.intern_log.specs.Now.{Unlinked, OpenSection, Resizing, Now, owner_of, opening, changed_by, now_after_event, now_after, now_of, with_lock}
use Rattle.intern_log.specs.declared.event.TableKind.{TableKind}
use Rattle.intern_log.specs.Lawful.{MayFollow, IsResizing, IsAllowedFrom, IsLawful}
use Rattle.intern_log.specs.Sections.{closes, some_frees, with_event, IsOpenAs}
use Rattle.intern_log.specs.Orderly.{is_grace, is_resize_given, ends_lock, some_ends_lock, HasResizeLock, IsLockedBy, level_after_event, level_after, IsOrderly}
use Rattle.intern_log.proofs.LawfulLaws.{IsAllowedFrom-prefix, IsAllowedFrom-rest}
use Rattle.intern_log.proofs.Slots.{section_after, lock_after, owner_after, unlinked_until_free, neither}
use Rattle.intern_log.proofs.Graced.{or_false, otherwise, put_there, said, open_is}

-- what each allowed event keeps, a list of them keeps
pub carried : (table : TableKind) (P : List Event → Now → Type 0) →
    ((done : List Event) (now : Now) (e : Event) → MayFollow table now e.seat e.what → P done now → P (done ++ e ∷ []) (now_after_event now e)) →
    (done rest : List Event) (now : Now) → IsAllowedFrom table now rest → P done now → P (done ++ rest) (now_after now rest)
carried table P step done [] now allowed holds = subst (λ l. P l now) (sym (append-nil done)) holds
carried table P step done (e ∷ rest) now allowed holds =
    subst (λ l. P l (now_after (now_after_event now e) rest)) (append_assoc done (e ∷ []) rest)
    (carried table P step (done ++ e ∷ []) rest (now_after_event now e) allowed.1 (step done now e allowed.0 holds))

-- one more event behind, that is not such an event
pub pushed : (front back : List Event) (k : ℕ) (what : What) (e : Event) (log : List Event) → log ≡ with_event front k what back → log ++ e ∷ [] ≡ with_event front k what (back ++ e ∷ [])
pushed front back k what e log is = ap (λ l. l ++ e ∷ []) is ∙ append_assoc front _ (e ∷ [])

pub still_none : (ends : Event → Bool) (back : List Event) (e : Event) → list_any ends back ≡ false → ends e ≡ false → list_any ends (back ++ e ∷ []) ≡ false
still_none ends back e none other = list_any-append ends back (e ∷ []) ∙ or_false _ _ none (or_false _ false other refl)

pub event_is : (e : Event) (k : ℕ) (what : What) → e.what ≡ what → e.seat ≡ k → (done : List Event) → done ++ e ∷ [] ≡ with_event done k what []
event_is e k what made at done = ap (λ w. done ++ record { seat = e.seat; what = w } ∷ []) made ∙ ap (λ n. done ++ record { seat = n; what = what } ∷ []) at

one_seat : (a b : ℕ) → Some a ≡ Some b → a ≡ b
one_seat a b is = cc

-- the place after one more event
pub place_next : (done : List Event) (now : Now) (e : Event) → now.place ≡ length done → (now_after_event now e).place ≡ length (done ++ e ∷ [])
place_next done now e was = let longer = length-append done (e ∷ []) in omega (arith, longer, was)

-- the place, and the open section of a number with the Open that it comes from
record Opened (k : ℕ) (done : List Event) (now : Now) : Type 0 where
  place : now.place ≡ length done
  was : (o : OpenSection) → now.section k ≡ Some o → IsOpenAs done k o.place o.counter

same_section : (a b : OpenSection) → Some a ≡ Some b → a ≡ b
same_section a b is = cc

opened_next : (table : TableKind) (k : ℕ) (done : List Event) (now : Now) (e : Event) → MayFollow table now e.seat e.what → Opened k done now → Opened k (done ++ e ∷ []) (now_after_event now e)
opened_next table k done now e may tie = record {
  place = place_next done now e tie.place;
  was = λ o. section_after (λ section. section ≡ Some o → IsOpenAs (done ++ e ∷ []) k o.place o.counter) table now e.seat e.what k may
      (λ unclosed is. let was = tie.was o is in
      (was.0, was.1 ++ e ∷ [], pushed was.0 was.1 k (Open o.counter) e done was.2, was.3, still_none (λ (x : Event). closes k x.seat x.what) was.1 e was.4 unclosed))
      (λ counter made at none is. subst (λ (p : OpenSection). IsOpenAs (done ++ e ∷ []) k p.place p.counter) (same_section _ o is)
      (done, [], event_is e k (Open counter) made at done, sym tie.place, refl))
      (λ closed is. absurd (cc));
}

-- an open section was opened at its place with its counter, and not closed since
pub open_was_opened : (table : TableKind) (log : List Event) (k : ℕ) (o : OpenSection) → IsAllowedFrom table (opening table.min_level) log →
    (now_of table.min_level log).section k ≡ Some o → IsOpenAs log k o.place o.counter
open_was_opened table log k o allowed =
    (carried table (Opened k) (opened_next table k) [] log (opening table.min_level) allowed (record { place = refl; was = λ p none. absurd (cc) })).was o

-- who has the resize lock took it, and it was not given back since
pub owner_took : (table : TableKind) (k : ℕ) (done rest : List Event) (now : Now) → IsAllowedFrom table now rest →
    (owner_of now.resizing ≡ Some k → HasResizeLock done k) → owner_of (now_after now rest).resizing ≡ Some k → HasResizeLock (done ++ rest) k
owner_took table k = carried table (λ done now. owner_of now.resizing ≡ Some k → HasResizeLock done k) (λ done now e may tie.
    owner_after (λ owner. owner ≡ Some k → HasResizeLock (done ++ e ∷ []) k) table now e.seat e.what may
    (λ kept is. let was = tie is in
    (was.0, was.1 ++ e ∷ [], pushed was.0 was.1 k ResizeTaken e done was.2, still_none (λ (x : Event). is_resize_given x.what) was.1 e was.3 kept))
    (λ made none is. (done, [], event_is e k ResizeTaken made (one_seat e.seat k is) done, refl))
    (λ given is. absurd (cc)))

-- who has the lock of a bucket locked it, and nothing ended that since
pub lock_was_taken : (table : TableKind) (row bucket k : ℕ) (done rest : List Event) (now : Now) → IsAllowedFrom table now rest →
    (now.lock row bucket ≡ Some k → IsLockedBy done row bucket k) → (now_after now rest).lock row bucket ≡ Some k → IsLockedBy (done ++ rest) row bucket k
lock_was_taken table row bucket k = carried table (λ done now. now.lock row bucket ≡ Some k → IsLockedBy done row bucket k) (λ done now e may tie.
    lock_after (λ lock. lock ≡ Some k → IsLockedBy (done ++ e ∷ []) row bucket k) table now e.seat e.what row bucket may
    (λ kept is. let was = tie is in
    let at = was.1 in
    (was.0, (at.0, at.1 ++ e ∷ [], pushed at.0 at.1 k (Lock row bucket) e done at.2, at.3, still_none (λ (x : Event). ends_lock row bucket x.what) at.1 e at.4 kept)))
    (λ made none is. (length done, (done, [], event_is e k (Lock row bucket) made (one_seat e.seat k is) done, refl, refl)))
    (λ ended is. absurd (cc)))

pub free_has_none : (o : Option Resizing) (k : ℕ) → o ≡ None → owner_of o ≡ Some k → ⊥
free_has_none o k free is = let none : owner_of o ≡ None = ap owner_of free in absurd (cc)

-- the resize lock stays with its owner until it is given back
owned_until_given : (table : TableKind) (now : Now) (log : List Event) (k : ℕ) → owner_of now.resizing ≡ Some k → IsAllowedFrom table now log →
    list_any (λ (e : Event). is_resize_given e.what) log ≡ false → owner_of (now_after now log).resizing ≡ Some k
owned_until_given table now [] k is allowed none = is
owned_until_given table now (e ∷ log) k is allowed none =
    let parts = neither (is_resize_given e.what) (list_any (λ (x : Event). is_resize_given x.what) log) none in
    owned_until_given table (now_after_event now e) log k
    (owner_after (λ owner. owner ≡ Some k) table now e.seat e.what allowed.0 (λ kept. is) (λ made free. absurd (free_has_none now.resizing k free is)) (λ given. absurd (cc))) allowed.1 parts.1

-- a bucket stays locked until its lock is ended
locked_until_ended : (table : TableKind) (now : Now) (log : List Event) (row bucket k : ℕ) → now.lock row bucket ≡ Some k → IsAllowedFrom table now log →
    some_ends_lock row bucket log ≡ false → (now_after now log).lock row bucket ≡ Some k
locked_until_ended table now [] row bucket k is allowed none = is
locked_until_ended table now (e ∷ log) row bucket k is allowed none =
    let parts = neither (ends_lock row bucket e.what) (some_ends_lock row bucket log) none in
    locked_until_ended table (now_after_event now e) log row bucket k
    (lock_after (λ lock. lock ≡ Some k) table now e.seat e.what row bucket allowed.0 (λ kept. is) (λ made free. absurd (cc)) (λ ended. absurd (cc))) allowed.1 parts.1

graces-event : (now : Now) (seat : ℕ) (what : What) → (changed_by now seat what).graces ≡ now.graces + cond (is_grace what) 1 0
graces-event now seat (Create t h) = omega arith
graces-event now seat (Take t h) = omega arith
graces-event now seat (Found t h) = omega arith
graces-event now seat (Drop h) = omega arith
graces-event now seat (Perm h) = omega arith
graces-event now seat (Kill h) = omega arith
graces-event now seat (Claim x) = omega arith
graces-event now seat (Free x) = omega arith
graces-event now seat (Open c) = omega arith
graces-event now seat Close = omega arith
graces-event now seat Grace = refl
graces-event now seat (Lock r b) = omega arith
graces-event now seat (Unlock r b) = omega arith
graces-event now seat (Unlink x) = omega arith
graces-event now seat ResizeTaken = omega arith
graces-event now seat ResizeGiven = omega arith
graces-event now seat (Level l) = omega arith
graces-event now seat (Rehash n) = omega arith

pub level-event : (now : Now) (seat : ℕ) (what : What) → (changed_by now seat what).level ≡ level_after_event now.level what
level-event now seat (Create t h) = refl
level-event now seat (Take t h) = refl
level-event now seat (Found t h) = refl
level-event now seat (Drop h) = refl
level-event now seat (Perm h) = refl
level-event now seat (Kill h) = refl
level-event now seat (Claim x) = refl
level-event now seat (Free x) = refl
level-event now seat (Open c) = refl
level-event now seat Close = refl
level-event now seat Grace = refl
level-event now seat (Lock r b) = refl
level-event now seat (Unlock r b) = refl
level-event now seat (Unlink x) = refl
level-event now seat ResizeTaken = refl
level-event now seat ResizeGiven = refl
level-event now seat (Level l) = refl
level-event now seat (Rehash n) = refl

-- the graces of a log are counted, and its level is that of its last Level
pub graces_are : (now : Now) (log : List Event) → (now_after now log).graces ≡ now.graces + events_in is_grace log
graces_are now [] = omega arith
graces_are now (e ∷ log) =
    let more = graces_are (now_after_event now e) log in
    let one = graces-event now e.seat e.what in
    let count = sum_by-cons (λ (x : Event). cond (is_grace x.what) 1 0) e log in
    omega (arith, more, one, count)

pub level_is : (now : Now) (log : List Event) → (now_after now log).level ≡ level_after now.level log
level_is now [] = refl
level_is now (e ∷ log) = level_is (now_after_event now e) log ∙ ap (λ l. level_after l log) (level-event now e.seat e.what)

locked_there : (lock : ℕ → ℕ → Option ℕ) (row bucket k : ℕ) → with_lock lock row bucket (Some k) row bucket ≡ Some k
locked_there lock row bucket k =
    ap (λ b. cond (b && nat_eq bucket bucket) (Some k) (lock row bucket)) ((Decides-eqb row row).1 refl)
    ∙ ap (λ b. cond b (Some k) (lock row bucket)) ((Decides-eqb bucket bucket).1 refl)

pub none_locked : (o : Option ℕ) (k : ℕ) → o ≡ None → o ≡ Some k → ⊥
none_locked o k free is = cc

pub closed_is_closed : (section : Option OpenSection) (o : OpenSection) → section ≡ None → section ≡ Some o → ⊥
closed_is_closed section o closed is = cc

bounded : (counter first graces count : ℕ) → graces ≡ 0 + count → counter ≤ first + 2 * graces → counter ≤ first + 2 * count
bounded counter first graces count is within = omega (arith, is, within)

-- what a log says where the resize lock is had, and where a bucket is locked
pub owner_is : (table : TableKind) (now : Now) (log : List Event) (k : ℕ) → IsAllowedFrom table now log → HasResizeLock log k → owner_of (now_after now log).resizing ≡ Some k
owner_is table now log k allowed (front, back, is, kept) =
    let whole = subst (IsAllowedFrom table now) is allowed in
    let taken = now_after_event (now_after now front) (record { seat = k; what = ResizeTaken }) in
    ap (λ (n : Now). owner_of n.resizing) (ap (now_after now) is ∙ said now front k ResizeTaken back)
    ∙ owned_until_given table taken back k refl (IsAllowedFrom-rest table now front _ whole).1 kept

pub lock_is : (table : TableKind) (now : Now) (log : List Event) (row bucket k : ℕ) → IsAllowedFrom table now log → IsLockedBy log row bucket k → (now_after now log).lock row bucket ≡ Some k
lock_is table now log row bucket k allowed (place, (front, back, is, at, kept)) =
    let whole = subst (IsAllowedFrom table now) is allowed in
    let locked = now_after_event (now_after now front) (record { seat = k; what = Lock row bucket }) in
    let there : locked.lock row bucket ≡ Some k = locked_there (now_after now front).lock row bucket k in
    ap (λ (n : Now). n.lock row bucket) (ap (now_after now) is ∙ said now front k (Lock row bucket) back)
    ∙ locked_until_ended table locked back row bucket k there (IsAllowedFrom-rest table now front _ whole).1 kept

pub unlinked_is : (table : TableKind) (now : Now) (log before since : List Event) (k s : ℕ) → IsAllowedFrom table now log → log ≡ with_event before k (Unlink s) since →
    some_frees s since ≡ false → (now_after now log).slot s ≡ Unlinked k (now_after now before).place
unlinked_is table now log before since k s allowed is kept =
    let whole = subst (IsAllowedFrom table now) is allowed in
    let place = (now_after now before).place in
    let unlinked = now_after_event (now_after now before) (record { seat = k; what = Unlink s }) in
    let there : unlinked.slot s ≡ Unlinked k place = put_there ((now_after now before).slot) s (Unlinked k place) in
    ap (λ (n : Now). n.slot s) (ap (now_after now) is ∙ said now before k (Unlink s) since)
    ∙ unlinked_until_free table unlinked since s k place there (IsAllowedFrom-rest table now before _ whole).1 kept

-- an event of a lawful log may follow what is before it, and that is allowed
pub at_event : (table : TableKind) (log front back : List Event) (k : ℕ) (what : What) → IsLawful table log → log ≡ with_event front k what back →
    IsAllowedFrom table (opening table.min_level) front × MayFollow table (now_after (opening table.min_level) front) k what
at_event table log front back k what lawful is =
    let whole = subst (IsAllowedFrom table (opening table.min_level)) is lawful.allowed in
    (IsAllowedFrom-prefix table (opening table.min_level) front _ whole, (IsAllowedFrom-rest table (opening table.min_level) front _ whole).0)

-- the owner of the resize lock has taken it
resizer_has : (table : TableKind) (front : List Event) (k : ℕ) → IsAllowedFrom table (opening table.min_level) front →
    IsResizing (now_after (opening table.min_level) front) k → HasResizeLock front k
resizer_has table front k before resizing =
    owner_took table k [] front (opening table.min_level) before (λ is. absurd (cc)) (ap owner_of resizing.1 ∙ ap Some resizing.2)

pub lawful_is_orderly : (table : TableKind) (log : List Event) → IsLawful table log → IsOrderly table log
lawful_is_orderly table log lawful = record {
  opens = λ front back k counter is.
      let at = at_event table log front back k (Open counter) lawful is in
      let graces = graces_are (opening table.min_level) front in (
        (λ opened. let open_there = open_is table (opening table.min_level) front k at.0 opened in closed_is_closed _ _ at.1.0 open_there.1),
        bounded counter table.first_counter _ _ graces at.1.1,
      );
  closings = λ front back k is.
      let at = at_event table log front back k Close lawful is in
      (at.1.0.place, at.1.0.counter, open_was_opened table front k at.1.0 at.0 at.1.1);
  taken = λ front back k j is has.
      let at = at_event table log front back k ResizeTaken lawful is in
      free_has_none (now_after (opening table.min_level) front).resizing j at.1 (owner_is table (opening table.min_level) front j at.0 has);
  given = λ front back k is.
      let at = at_event table log front back k ResizeGiven lawful is in resizer_has table front k at.0 at.1.0;
  given_freed = λ front back before since k s is unlinked. otherwise _ (λ kept.
      let at = at_event table log front back k ResizeGiven lawful is in
      at.1.1 s _ (unlinked_is table (opening table.min_level) front before since k s at.0 unlinked kept));
  locks = λ front back k row bucket j is has.
      let at = at_event table log front back k (Lock row bucket) lawful is in
      none_locked _ j at.1 (lock_is table (opening table.min_level) front row bucket j at.0 has);
  unlocks = λ front back k row bucket is.
      let at = at_event table log front back k (Unlock row bucket) lawful is in
      lock_was_taken table row bucket k [] front (opening table.min_level) at.0 (λ was. absurd (cc)) at.1;
  level_owner = λ front back k level is.
      let at = at_event table log front back k (Level level) lawful is in resizer_has table front k at.0 at.1.0;
  level_by_one = λ front back k level is.
      let at = at_event table log front back k (Level level) lawful is in
      subst (λ l. (level ≡ l + 1) ⊎ (l ≡ level + 1)) (level_is (opening table.min_level) front) at.1.1;
  level_within = λ front back k level is. let at = at_event table log front back k (Level level) lawful is in (at.1.2, at.1.3);
  takes = λ front back k text h is. (at_event table log front back k (Take text h) lawful is).1.0;
  drops = λ front back k h is. (at_event table log front back k (Drop h) lawful is).1.0;
  perms = λ front back k h is. (at_event table log front back k (Perm h) lawful is).1.0;
  founds = λ front back k text h is. (at_event table log front back k (Found text h) lawful is).1.0;
  kills = λ front back k h is. (at_event table log front back k (Kill h) lawful is).1.0;
}
