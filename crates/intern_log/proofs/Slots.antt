-- What one event makes of a slot and of a section, in one law each, and what stays until when.
use Rattle.std.proofs.Common.{◌≡◌, ℕ, Bool, true, false, cond, List, [], ◌∷◌, ◌||◌, ◌&&◌, not, ◌<◌, ◌+◌, Option, Some, None, refl, sym, ap, subst, ◌∙◌}
use native.Mathlib.Omega.{arith}
use Rattle.std.specs.Prelude.{nat_eq}
use Rattle.std.specs.Option.{option_map}
use Rattle.std.proofs.lemmas.Bool.Decides.{Decides-eqb}
use Rattle.intern_log.specs.declared.event.Handle.{Handle}
use Rattle.intern_log.specs.declared.event.Event.{Event}
use Rattle.intern_log.specs.declared.event.What.{What}
use Rattle.intern_log.specs.declared.event.What.TheVariants.{Create, Take, Found, Drop, Perm, Kill, Claim, Free, Open, Close, Grace, Lock, Unlock, Unlink, ResizeTaken, ResizeGiven, Level, Rehash}
use Rattle.intern_log.proofs.Handles.{both_hold}
use Rattle.intern_log.specs.Now.{Phase, Vacant, Claimed, Linked, Unlinked, OpenSection, Resizing, Now, owner_of, resizing_after_lock, opening, changed_by, now_after_event, now_after}
use Rattle.intern_log.specs.declared.event.TableKind.{TableKind}
use Rattle.intern_log.specs.Lawful.{IsLinkedDead, MayFree, MayFollow, IsAllowedFrom}
use Rattle.intern_log.specs.Sections.{frees, unlinks, closes, some_frees, some_unlinks, some_closes}
use Rattle.intern_log.specs.Orderly.{ends_lock, is_resize_given}

-- what holds of both branches
both : {A : Type 0} (P : A → Type 0) (b : Bool) (x y : A) → (b ≡ true → P x) → (b ≡ false → P y) → P (cond b x y)
both P true x y first second = first refl
both P false x y first second = second refl

at_that : (n k : ℕ) → nat_eq n k ≡ true → k ≡ n
at_that n k is = sym ((Decides-eqb n k).0 is)

-- what holds of a slot before an event, and of each phase that an event can give it, holds after the event
pub slot_after : (P : Phase → Type 0) (table : TableKind) (now : Now) (seat : ℕ) (what : What) (s : ℕ) → MayFollow table now seat what →
    (frees s what ≡ false → unlinks s what ≡ false → P (now.slot s)) →
    ((text : List ℕ) (h : Handle) → what ≡ Create text h → h.slot ≡ s → now.slot s ≡ Claimed seat → P (Linked text h now.place)) →
    (what ≡ Claim s → now.slot s ≡ Vacant → P (Claimed seat)) →
    (what ≡ Free s → frees s what ≡ true → MayFree now seat (now.slot s) → P Vacant) →
    (what ≡ Unlink s → unlinks s what ≡ true → IsLinkedDead now (now.slot s) → P (Unlinked seat now.place)) →
    P ((changed_by now seat what).slot s)
slot_after P table now seat (Create t h) s may stays created claimed freed unlinked =
    both P (nat_eq s h.slot) _ _ (λ is. created t h refl (at_that s h.slot is) (ap now.slot (sym (at_that s h.slot is)) ∙ may.1)) (λ other. stays refl refl)
slot_after P table now seat (Claim x) s may stays created claimed freed unlinked =
    both P (nat_eq s x) _ _ (λ is. claimed (ap Claim (at_that s x is)) (ap now.slot (sym (at_that s x is)) ∙ may)) (λ other. stays refl refl)
slot_after P table now seat (Free x) s may stays created claimed freed unlinked =
    both P (nat_eq s x) _ _ (λ is. freed (ap Free (at_that s x is)) is (subst (λ y. MayFree now seat (now.slot y)) (at_that s x is) may)) (λ other. stays other refl)
slot_after P table now seat (Unlink x) s may stays created claimed freed unlinked =
    both P (nat_eq s x) _ _ (λ is. unlinked (ap Unlink (at_that s x is)) is (subst (λ y. IsLinkedDead now (now.slot y)) (at_that s x is) may)) (λ other. stays refl other)
slot_after P table now seat (Take t h) s may stays created claimed freed unlinked = stays refl refl
slot_after P table now seat (Found t h) s may stays created claimed freed unlinked = stays refl refl
slot_after P table now seat (Drop h) s may stays created claimed freed unlinked = stays refl refl
slot_after P table now seat (Perm h) s may stays created claimed freed unlinked = stays refl refl
slot_after P table now seat (Kill h) s may stays created claimed freed unlinked = stays refl refl
slot_after P table now seat (Open c) s may stays created claimed freed unlinked = stays refl refl
slot_after P table now seat Close s may stays created claimed freed unlinked = stays refl refl
slot_after P table now seat Grace s may stays created claimed freed unlinked = stays refl refl
slot_after P table now seat (Lock r b) s may stays created claimed freed unlinked = stays refl refl
slot_after P table now seat (Unlock r b) s may stays created claimed freed unlinked = stays refl refl
slot_after P table now seat ResizeTaken s may stays created claimed freed unlinked = stays refl refl
slot_after P table now seat ResizeGiven s may stays created claimed freed unlinked = stays refl refl
slot_after P table now seat (Level l) s may stays created claimed freed unlinked = stays refl refl
slot_after P table now seat (Rehash n) s may stays created claimed freed unlinked = stays refl refl

-- the same of the section of a number
pub section_after : (P : Option OpenSection → Type 0) (table : TableKind) (now : Now) (seat : ℕ) (what : What) (k : ℕ) → MayFollow table now seat what →
    (closes k seat what ≡ false → P (now.section k)) →
    ((counter : ℕ) → what ≡ Open counter → seat ≡ k → now.section k ≡ None → P (Some (record { place = now.place; counter = counter }))) →
    (closes k seat what ≡ true → P None) →
    P ((changed_by now seat what).section k)
section_after P table now seat (Open c) k may stays opened closed =
    both P (nat_eq k seat) _ _ (λ is. opened c refl (at_that k seat is) (ap now.section (sym (at_that k seat is)) ∙ may.0)) (λ other. stays refl)
section_after P table now seat Close k may stays opened closed = both P (nat_eq k seat) _ _ closed (λ other. stays other)
section_after P table now seat (Create t h) k may stays opened closed = stays refl
section_after P table now seat (Take t h) k may stays opened closed = stays refl
section_after P table now seat (Found t h) k may stays opened closed = stays refl
section_after P table now seat (Drop h) k may stays opened closed = stays refl
section_after P table now seat (Perm h) k may stays opened closed = stays refl
section_after P table now seat (Kill h) k may stays opened closed = stays refl
section_after P table now seat (Claim x) k may stays opened closed = stays refl
section_after P table now seat (Free x) k may stays opened closed = stays refl
section_after P table now seat Grace k may stays opened closed = stays refl
section_after P table now seat (Lock r b) k may stays opened closed = stays refl
section_after P table now seat (Unlock r b) k may stays opened closed = stays refl
section_after P table now seat (Unlink x) k may stays opened closed = stays refl
section_after P table now seat ResizeTaken k may stays opened closed = stays refl
section_after P table now seat ResizeGiven k may stays opened closed = stays refl
section_after P table now seat (Level l) k may stays opened closed = stays refl
section_after P table now seat (Rehash n) k may stays opened closed = stays refl

-- two Locks of one bucket
same_lock : (row bucket r b : ℕ) → (nat_eq row r && nat_eq bucket b) ≡ true → Lock r b ≡ Lock row bucket
same_lock row bucket r b is =
    let parts = both_hold (nat_eq row r) (nat_eq bucket b) is in ap (λ x. Lock x b) (at_that row r parts.0) ∙ ap (Lock row) (at_that bucket b parts.1)

-- the bucket of a Lock is free
abbrev FreeAt : Now → What → Type 0
FreeAt now (Lock r b) = now.lock r b ≡ None
FreeAt now _ = Unit {0}

-- the same of the lock of a bucket
pub lock_after : (P : Option ℕ → Type 0) (table : TableKind) (now : Now) (seat : ℕ) (what : What) (row bucket : ℕ) → MayFollow table now seat what →
    (ends_lock row bucket what ≡ false → P (now.lock row bucket)) →
    (what ≡ Lock row bucket → now.lock row bucket ≡ None → P (Some seat)) →
    (ends_lock row bucket what ≡ true → P None) →
    P ((changed_by now seat what).lock row bucket)
lock_after P table now seat (Lock r b) row bucket may stays locked ended =
    both P (nat_eq row r && nat_eq bucket b) _ _ (λ is. locked (same_lock row bucket r b is) (subst (λ w. FreeAt now w) (same_lock row bucket r b is) may)) (λ other. stays refl)
lock_after P table now seat (Unlock r b) row bucket may stays locked ended = both P (nat_eq row r && nat_eq bucket b) _ _ ended stays
lock_after P table now seat (Level l) row bucket may stays locked ended =
    both P (nat_eq row l) _ _ (λ is. stays (ap not is)) (λ other. ended (ap not other))
lock_after P table now seat (Create t h) row bucket may stays locked ended = stays refl
lock_after P table now seat (Take t h) row bucket may stays locked ended = stays refl
lock_after P table now seat (Found t h) row bucket may stays locked ended = stays refl
lock_after P table now seat (Drop h) row bucket may stays locked ended = stays refl
lock_after P table now seat (Perm h) row bucket may stays locked ended = stays refl
lock_after P table now seat (Kill h) row bucket may stays locked ended = stays refl
lock_after P table now seat (Claim x) row bucket may stays locked ended = stays refl
lock_after P table now seat (Free x) row bucket may stays locked ended = stays refl
lock_after P table now seat (Open c) row bucket may stays locked ended = stays refl
lock_after P table now seat Close row bucket may stays locked ended = stays refl
lock_after P table now seat Grace row bucket may stays locked ended = stays refl
lock_after P table now seat (Unlink x) row bucket may stays locked ended = stays refl
lock_after P table now seat ResizeTaken row bucket may stays locked ended = stays refl
lock_after P table now seat ResizeGiven row bucket may stays locked ended = stays refl
lock_after P table now seat (Rehash n) row bucket may stays locked ended = stays refl

-- the owner after a Lock
pub same_owner : (P : Option ℕ → Type 0) (seat row : ℕ) (resizing : Option Resizing) → P (owner_of resizing) → P (owner_of (option_map (resizing_after_lock seat row) resizing))
same_owner P seat row None is = is
same_owner P seat row (Some r) is = is

-- the same of the resize lock
pub owner_after : (P : Option ℕ → Type 0) (table : TableKind) (now : Now) (seat : ℕ) (what : What) → MayFollow table now seat what →
    (is_resize_given what ≡ false → P (owner_of now.resizing)) →
    (what ≡ ResizeTaken → now.resizing ≡ None → P (Some seat)) →
    (is_resize_given what ≡ true → P None) →
    P (owner_of (changed_by now seat what).resizing)
owner_after P table now seat ResizeTaken may stays taken given = taken refl may
owner_after P table now seat ResizeGiven may stays taken given = given refl
owner_after P table now seat (Lock r b) may stays taken given = same_owner P seat r now.resizing (stays refl)
owner_after P table now seat (Create t h) may stays taken given = stays refl
owner_after P table now seat (Take t h) may stays taken given = stays refl
owner_after P table now seat (Found t h) may stays taken given = stays refl
owner_after P table now seat (Drop h) may stays taken given = stays refl
owner_after P table now seat (Perm h) may stays taken given = stays refl
owner_after P table now seat (Kill h) may stays taken given = stays refl
owner_after P table now seat (Claim x) may stays taken given = stays refl
owner_after P table now seat (Free x) may stays taken given = stays refl
owner_after P table now seat (Open c) may stays taken given = stays refl
owner_after P table now seat Close may stays taken given = stays refl
owner_after P table now seat Grace may stays taken given = stays refl
owner_after P table now seat (Unlock r b) may stays taken given = stays refl
owner_after P table now seat (Unlink x) may stays taken given = stays refl
owner_after P table now seat (Level l) may stays taken given = stays refl
owner_after P table now seat (Rehash n) may stays taken given = stays refl

pub neither : (b c : Bool) → (b || c) ≡ false → (b ≡ false) × (c ≡ false)
neither true c none = absurd (cc)
neither false c none = (refl, none)

-- a slot that is out of its chain stays so until it is freed
pub unlinked_until_free : (table : TableKind) (now : Now) (log : List Event) (s i p : ℕ) →
    now.slot s ≡ Unlinked i p → IsAllowedFrom table now log → some_frees s log ≡ false → (now_after now log).slot s ≡ Unlinked i p
unlinked_until_free table now [] s i p is allowed none = is
unlinked_until_free table now (e ∷ log) s i p is allowed none =
    let parts = neither (frees s e.what) (some_frees s log) none in
    let stays = slot_after (λ phase. phase ≡ Unlinked i p) table now e.seat e.what s allowed.0 (λ unfreed linked. is)
    (λ t h made at claimed. absurd (cc)) (λ made vacant. absurd (cc)) (λ made frees may. absurd (cc)) (λ made unlinks may. absurd (subst (IsLinkedDead now) is may)) in
    unlinked_until_free table (now_after_event now e) log s i p stays allowed.1 parts.1

-- a slot that was claimed is not vacant until it is freed
pub taken_until_free : (table : TableKind) (now : Now) (log : List Event) (s : ℕ) →
    ¬ (now.slot s ≡ Vacant) → IsAllowedFrom table now log → some_frees s log ≡ false → ¬ ((now_after now log).slot s ≡ Vacant)
taken_until_free table now [] s is allowed none = is
taken_until_free table now (e ∷ log) s is allowed none =
    let parts = neither (frees s e.what) (some_frees s log) none in
    let stays = slot_after (λ phase. ¬ (phase ≡ Vacant)) table now e.seat e.what s allowed.0 (λ unfreed linked. is)
    (λ t h made at claimed vacant. absurd (cc)) (λ made vacant. absurd (is vacant)) (λ made frees may. absurd (cc)) (λ made unlinks may vacant. absurd (cc)) in
    taken_until_free table (now_after_event now e) log s stays allowed.1 parts.1

-- a slot in a chain stays there until it is unlinked
pub linked_until_unlink : (table : TableKind) (now : Now) (log : List Event) (s : ℕ) (t : List ℕ) (h : Handle) (p : ℕ) →
    now.slot s ≡ Linked t h p → IsAllowedFrom table now log → some_unlinks s log ≡ false → (now_after now log).slot s ≡ Linked t h p
linked_until_unlink table now [] s t h p is allowed none = is
linked_until_unlink table now (e ∷ log) s t h p is allowed none =
    let parts = neither (unlinks s e.what) (some_unlinks s log) none in
    let stays = slot_after (λ phase. phase ≡ Linked t h p) table now e.seat e.what s allowed.0 (λ unfreed linked. is)
    (λ u k made at claimed. absurd (cc)) (λ made vacant. absurd (cc)) (λ made frees may. absurd (subst (MayFree now e.seat) is may)) (λ made unlinks may. absurd (cc)) in
    linked_until_unlink table (now_after_event now e) log s t h p stays allowed.1 parts.1

-- an open section stays open until its number closes it
pub open_until_close : (table : TableKind) (now : Now) (log : List Event) (k : ℕ) (o : OpenSection) →
    now.section k ≡ Some o → IsAllowedFrom table now log → some_closes k log ≡ false → (now_after now log).section k ≡ Some o
open_until_close table now [] k o is allowed none = is
open_until_close table now (e ∷ log) k o is allowed none =
    let parts = neither (closes k e.seat e.what) (some_closes k log) none in
    let stays = section_after (λ section. section ≡ Some o) table now e.seat e.what k allowed.0 (λ unclosed. is) (λ counter made at none. absurd (cc)) (λ closes. absurd (cc)) in
    open_until_close table (now_after_event now e) log k o stays allowed.1 parts.1

-- each open section was opened before now
abbrev pub OpenedBefore : Now → Type 0
OpenedBefore now = (k : ℕ) (o : OpenSection) → now.section k ≡ Some o → o.place < now.place

place_of : (made o : OpenSection) → Some made ≡ Some o → made.place ≡ o.place
place_of made o is = let same : made ≡ o = cc in ap (λ (x : OpenSection). x.place) same

pub opened_before-after : (table : TableKind) (now : Now) (log : List Event) → IsAllowedFrom table now log → OpenedBefore now → OpenedBefore (now_after now log)
opened_before-after table now [] allowed opened = opened
opened_before-after table now (e ∷ log) allowed opened =
    opened_before-after table (now_after_event now e) log allowed.1 (λ k o.
    section_after (λ section. section ≡ Some o → o.place < now.place + 1) table now e.seat e.what k allowed.0
    (λ unclosed is. let before = opened k o is in omega (arith, before))
    (λ counter made at none is. let same = place_of (record { place = now.place; counter = counter }) o is in omega (arith, same))
    (λ closes is. absurd (cc)))

pub opened_before-opening : (min_level : ℕ) → OpenedBefore (opening min_level)
opened_before-opening min_level k o is = absurd (cc)
