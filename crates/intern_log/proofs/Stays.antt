-- What an event leaves as it was.
use Rattle.std.proofs.Common.{◌≡◌, ℕ, Bool, true, false, cond, not, ◌&&◌, List, [], ◌∷◌, ◌++◌, refl, ap, ◌∙◌}
use Rattle.std.specs.Prelude.{nat_eq}
use Rattle.intern_log.specs.declared.event.Event.{Event}
use Rattle.intern_log.specs.declared.event.What.{What}
use Rattle.intern_log.specs.declared.event.What.TheVariants.{Create, Take, Found, Drop, Perm, Kill, Claim, Free, Open, Close, Grace, Lock, Unlock, Unlink, ResizeTaken, ResizeGiven, Level, Rehash}
use Rattle.intern_log.specs.TextMap.{TextMap}
use Rattle.intern_log.specs.Log.{next, map_of}
use Rattle.intern_log.specs.Own.{is_visible}
use Rattle.intern_log.specs.Now.{Now, owner_of, changed_by}
use Rattle.intern_log.specs.Orderly.{is_grace}
use Rattle.intern_log.specs.Touches.{touches_slot, touches_section, touches_lock, touches_owner, touches_resizing, is_level, is_rehash}
use Rattle.intern_log.proofs.OneMore.{map_of-one_more}
use Rattle.intern_log.proofs.Slots.{same_owner}

-- a choice by a test that answers false
other_one : {A : Type 0} (b : Bool) (x y : A) → b ≡ false → cond b x y ≡ y
other_one b x y is = ap (λ c. cond c x y) is

first_one : {A : Type 0} (b : Bool) (x y : A) → not b ≡ false → cond b x y ≡ x
first_one true x y is = refl
first_one false x y is = absurd (cc)

pub slot_unchanged : (now : Now) (seat : ℕ) (what : What) (s : ℕ) → touches_slot s what ≡ false → (changed_by now seat what).slot s ≡ now.slot s
slot_unchanged now seat (Create t h) s other = other_one (nat_eq s h.slot) _ _ other
slot_unchanged now seat (Claim x) s other = other_one (nat_eq s x) _ _ other
slot_unchanged now seat (Free x) s other = other_one (nat_eq s x) _ _ other
slot_unchanged now seat (Unlink x) s other = other_one (nat_eq s x) _ _ other
slot_unchanged now seat _ s other = refl

pub section_unchanged : (now : Now) (seat : ℕ) (what : What) (k : ℕ) → touches_section k seat what ≡ false → (changed_by now seat what).section k ≡ now.section k
section_unchanged now seat (Open c) k other = other_one (nat_eq k seat) _ _ other
section_unchanged now seat Close k other = other_one (nat_eq k seat) _ _ other
section_unchanged now seat _ k other = refl

pub lock_unchanged : (now : Now) (seat : ℕ) (what : What) (row bucket : ℕ) → touches_lock row bucket what ≡ false → (changed_by now seat what).lock row bucket ≡ now.lock row bucket
lock_unchanged now seat (Lock r b) row bucket other = other_one (nat_eq row r && nat_eq bucket b) _ _ other
lock_unchanged now seat (Unlock r b) row bucket other = other_one (nat_eq row r && nat_eq bucket b) _ _ other
lock_unchanged now seat (Level l) row bucket other = first_one (nat_eq row l) _ _ other
lock_unchanged now seat _ row bucket other = refl

pub owner_unchanged : (now : Now) (seat : ℕ) (what : What) → touches_owner what ≡ false → owner_of (changed_by now seat what).resizing ≡ owner_of now.resizing
owner_unchanged now seat (Lock r b) other = same_owner (λ owner. owner ≡ owner_of now.resizing) seat r now.resizing refl
owner_unchanged now seat ResizeTaken other = absurd (cc)
owner_unchanged now seat ResizeGiven other = absurd (cc)
owner_unchanged now seat _ other = refl

pub resizing_unchanged : (now : Now) (seat : ℕ) (what : What) → touches_resizing what ≡ false → (changed_by now seat what).resizing ≡ now.resizing
resizing_unchanged now seat (Lock r b) other = absurd (cc)
resizing_unchanged now seat ResizeTaken other = absurd (cc)
resizing_unchanged now seat ResizeGiven other = absurd (cc)
resizing_unchanged now seat _ other = refl

pub level_unchanged : (now : Now) (seat : ℕ) (what : What) → is_level what ≡ false → (changed_by now seat what).level ≡ now.level
level_unchanged now seat (Level l) other = absurd (cc)
level_unchanged now seat _ other = refl

pub since_unchanged : (now : Now) (seat : ℕ) (what : What) → is_level what ≡ false → (changed_by now seat what).since ≡ now.since
since_unchanged now seat (Level l) other = absurd (cc)
since_unchanged now seat _ other = refl

pub graces_unchanged : (now : Now) (seat : ℕ) (what : What) → is_grace what ≡ false → (changed_by now seat what).graces ≡ now.graces
graces_unchanged now seat Grace other = absurd (cc)
graces_unchanged now seat _ other = refl

pub seed_unchanged : (now : Now) (seat : ℕ) (what : What) → is_rehash what ≡ false → (changed_by now seat what).seed ≡ now.seed
seed_unchanged now seat (Rehash n) other = absurd (cc)
seed_unchanged now seat _ other = refl

pub next_unchanged : (m : TextMap) (what : What) → is_visible what ≡ false → next m what ≡ m
next_unchanged m (Create t h) unseen = absurd (cc)
next_unchanged m (Take t h) unseen = absurd (cc)
next_unchanged m (Found t h) unseen = absurd (cc)
next_unchanged m (Drop h) unseen = absurd (cc)
next_unchanged m (Perm h) unseen = absurd (cc)
next_unchanged m (Kill h) unseen = absurd (cc)
next_unchanged m _ unseen = refl

pub map_unchanged : (log : List Event) (e : Event) → is_visible e.what ≡ false → map_of (log ++ e ∷ []) ≡ map_of log
map_unchanged log e unseen = map_of-one_more log e ∙ next_unchanged (map_of log) e.what unseen
