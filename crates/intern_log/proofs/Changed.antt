-- What an event changes, somewhere: the converse of what it leaves.
use Rattle.std.proofs.Common.{◌≡◌, ℕ, ◌+◌, Bool, true, false, cond, not, ◌&&◌, ◌⊎◌, ◌↔◌, Option, Some, None, inl, inr, refl, sym, ap, ◌∙◌}
use native.Mathlib.Omega.{arith}
use Rattle.std.specs.Prelude.{nat_eq}
use Rattle.std.proofs.lemmas.Bool.Decides.{Decides-eqb}
use Rattle.intern_log.specs.declared.event.What.{What}
use Rattle.intern_log.specs.declared.event.What.TheVariants.{Create, Claim, Free, Open, Close, Grace, Lock, Unlock, Unlink, ResizeTaken, ResizeGiven, Level, Rehash}
use Rattle.intern_log.specs.Now.{Phase, Vacant, Claimed, Linked, Unlinked, Resizing, Now, owner_of, opening, changed_by}
use Rattle.intern_log.specs.Orderly.{is_grace}
use Rattle.intern_log.specs.Touches.{touches_slot, touches_section, touches_lock, touches_owner, touches_resizing, is_level, is_rehash}
use Rattle.intern_log.proofs.Handles.{both_hold}

-- a choice by a test that answers true
this_one : {A : Type 0} (b : Bool) (x y z : A) → b ≡ true → cond b x y ≡ z → x ≡ z
this_one b x y z is same = sym (ap (λ c. cond c x y) is) ∙ same

that_one : {A : Type 0} (b : Bool) (x y z : A) → not b ≡ true → cond b x y ≡ z → y ≡ z
that_one true x y z is same = absurd (cc)
that_one false x y z is same = same

is_same : (n k : ℕ) → nat_eq n k ≡ true → k ≡ n
is_same n k is = sym ((Decides-eqb n k).0 is)

is_reflexive : (n : ℕ) → nat_eq n n ≡ true
is_reflexive n = (Decides-eqb n n).1 refl

not_so : (b : Bool) → not b ≡ true → b ≡ true → ⊥
not_so true is also = absurd (cc)
not_so false is also = absurd (cc)

-- a log's end at which each slot, or each bucket, is so
abbrev at_slots : Phase → Now
at_slots phase = record (opening 0) { slot = λ s. phase }

abbrev at_locks : Option ℕ → Now
at_locks owner = record (opening 0) { lock = λ r b. owner }

abbrev at_resizing : Resizing → Now
at_resizing r = record (opening 0) { resizing = Some r }

pub slot_changed : (s : ℕ) (seat : ℕ) (what : What) → touches_slot s what ≡ true → (now : Now) × ¬ ((changed_by now seat what).slot s ≡ now.slot s)
slot_changed s seat (Create text h) is = (at_slots Vacant, (λ same. let no : Linked text h 0 ≡ Vacant = this_one (nat_eq s h.slot) _ _ _ is same in absurd (cc)))
slot_changed s seat (Claim x) is = (at_slots Vacant, (λ same. let no : Claimed seat ≡ Vacant = this_one (nat_eq s x) _ _ _ is same in absurd (cc)))
slot_changed s seat (Free x) is = (at_slots (Claimed 0), (λ same. let no : Vacant ≡ Claimed 0 = this_one (nat_eq s x) _ _ _ is same in absurd (cc)))
slot_changed s seat (Unlink x) is = (at_slots Vacant, (λ same. let no : Unlinked seat 0 ≡ Vacant = this_one (nat_eq s x) _ _ _ is same in absurd (cc)))
slot_changed s seat _ is = absurd (cc)

pub section_changed : (k : ℕ) (seat : ℕ) (what : What) → touches_section k seat what ≡ true → (now : Now) × ¬ ((changed_by now seat what).section k ≡ now.section k)
section_changed k seat (Open counter) is = (opening 0, (λ same. let no : Some (record { place = 0; counter = counter }) ≡ None = this_one (nat_eq k seat) _ _ _ is same in absurd (cc)))
section_changed k seat Close is =
    (record (opening 0) { section = λ n. Some (record { place = 0; counter = 0 }) }, (λ same. let no : None ≡ Some (record { place = 0; counter = 0 }) = this_one (nat_eq k seat) _ _ _ is same in absurd (cc)))
section_changed k seat _ is = absurd (cc)

pub lock_changed : (row bucket : ℕ) (seat : ℕ) (what : What) → touches_lock row bucket what ≡ true → (now : Now) × ¬ ((changed_by now seat what).lock row bucket ≡ now.lock row bucket)
lock_changed row bucket seat (Lock r b) is = (at_locks None, (λ same. let no : Some seat ≡ None = this_one (nat_eq row r && nat_eq bucket b) _ _ _ is same in absurd (cc)))
lock_changed row bucket seat (Unlock r b) is = (at_locks (Some 0), (λ same. let no : None ≡ Some 0 = this_one (nat_eq row r && nat_eq bucket b) _ _ _ is same in absurd (cc)))
lock_changed row bucket seat (Level level) is = (at_locks (Some 0), (λ same. let no : None ≡ Some 0 = that_one (nat_eq row level) _ _ _ is same in absurd (cc)))
lock_changed row bucket seat _ is = absurd (cc)

pub owner_changed : (seat : ℕ) (what : What) → touches_owner what ≡ true → (now : Now) × ¬ (owner_of (changed_by now seat what).resizing ≡ owner_of now.resizing)
owner_changed seat ResizeTaken is = (opening 0, (λ same. absurd (cc)))
owner_changed seat ResizeGiven is = (at_resizing (record { seat = 0; place = 0; level = 0; replacing = false }), (λ same. absurd (cc)))
owner_changed seat _ is = absurd (cc)

-- a Lock of another row by who has the resize lock
replaces_now : (seat row : ℕ) (place level : ℕ) → nat_eq row (row + 1) ≡ true → ⊥
replaces_now seat row place level is = let same = is_same row (row + 1) is in omega (arith, same)

pub resizing_changed : (seat : ℕ) (what : What) → touches_resizing what ≡ true → (now : Now) × ¬ ((changed_by now seat what).resizing ≡ now.resizing)
resizing_changed seat (Lock row bucket) is = (
  at_resizing (record { seat = seat; place = 0; level = row + 1; replacing = false }),
  (λ same.
      let replacing : (nat_eq seat seat && not (nat_eq row (row + 1))) ≡ false = ap flag same in
      absurd (cc (replacing, ap (λ b. b && not (nat_eq row (row + 1))) (is_reflexive seat), ap not (unlike (nat_eq row (row + 1)) (replaces_now seat row 0 0))))),
)
  where
    flag : Option Resizing → Bool
    flag None = false
    flag (Some r) = r.replacing

    unlike : (b : Bool) → (b ≡ true → ⊥) → b ≡ false
    unlike true never = absurd (never refl)
    unlike false never = refl
resizing_changed seat ResizeTaken is = (opening 0, (λ same. absurd (cc)))
resizing_changed seat ResizeGiven is = (at_resizing (record { seat = 0; place = 0; level = 0; replacing = false }), (λ same. absurd (cc)))
resizing_changed seat _ is = absurd (cc)

pub level_changed : (seat : ℕ) (what : What) → is_level what ≡ true → (now : Now) × ¬ ((changed_by now seat what).level ≡ now.level)
level_changed seat (Level level) is = (opening (level + 1), (λ same. let no : level ≡ level + 1 = same in absurd (omega (arith, no))))
level_changed seat _ is = absurd (cc)

pub since_changed : (seat : ℕ) (what : What) → is_level what ≡ true → (now : Now) × ¬ ((changed_by now seat what).since ≡ now.since)
since_changed seat (Level level) is = (opening 0, (λ same. let no : 1 ≡ 0 = same in absurd (omega (arith, no))))
since_changed seat _ is = absurd (cc)

pub graces_changed : (seat : ℕ) (what : What) → is_grace what ≡ true → (now : Now) × ¬ ((changed_by now seat what).graces ≡ now.graces)
graces_changed seat Grace is = (opening 0, (λ same. let no : 1 ≡ 0 = same in absurd (omega (arith, no))))
graces_changed seat _ is = absurd (cc)

pub seed_changed : (seat : ℕ) (what : What) → is_rehash what ≡ true → (now : Now) × ¬ ((changed_by now seat what).seed ≡ now.seed)
seed_changed seat (Rehash n) is = (record (opening 0) { seed = n + 1 }, (λ same. let no : n ≡ n + 1 = same in absurd (omega (arith, no))))
seed_changed seat _ is = absurd (cc)

-- which events touch a lock, in other words
touches_by : (row bucket : ℕ) (what : What) → touches_lock row bucket what ≡ true → (what ≡ Lock row bucket) ⊎ (what ≡ Unlock row bucket) ⊎ ((level : ℕ) × (what ≡ Level level) × ¬ (level ≡ row))
touches_by row bucket (Lock r b) is = let parts = both_hold (nat_eq row r) (nat_eq bucket b) is in inl (ap (λ x. Lock x b) (is_same row r parts.0) ∙ ap (Lock row) (is_same bucket b parts.1))
touches_by row bucket (Unlock r b) is = let parts = both_hold (nat_eq row r) (nat_eq bucket b) is in inr (inl (ap (λ x. Unlock x b) (is_same row r parts.0) ∙ ap (Unlock row) (is_same bucket b parts.1)))
touches_by row bucket (Level level) is = inr (inr (level, refl, (λ same. not_so (nat_eq row level) is ((Decides-eqb row level).1 (sym same)))))
touches_by row bucket _ is = absurd (cc)

pub both_reflexive : (row bucket : ℕ) → (nat_eq row row && nat_eq bucket bucket) ≡ true
both_reflexive row bucket = ap (λ b. b && nat_eq bucket bucket) (is_reflexive row) ∙ is_reflexive bucket

other_level : (row level : ℕ) (b : Bool) → (b ≡ true → row ≡ level) → ¬ (level ≡ row) → not b ≡ true
other_level row level true is other = absurd (other (sym (is refl)))
other_level row level false is other = refl

touches_so : (row bucket : ℕ) (what : What) → (what ≡ Lock row bucket) ⊎ (what ≡ Unlock row bucket) ⊎ ((level : ℕ) × (what ≡ Level level) × ¬ (level ≡ row)) → touches_lock row bucket what ≡ true
touches_so row bucket what (inl is) = ap (touches_lock row bucket) is ∙ both_reflexive row bucket
touches_so row bucket what (inr (inl is)) = ap (touches_lock row bucket) is ∙ both_reflexive row bucket
touches_so row bucket what (inr (inr (level, is, other))) = ap (touches_lock row bucket) is ∙ other_level row level (nat_eq row level) (Decides-eqb row level).0 other

pub touched_lock : (row bucket : ℕ) (what : What) → (touches_lock row bucket what ≡ true) ↔ ((what ≡ Lock row bucket) ⊎ (what ≡ Unlock row bucket) ⊎ ((level : ℕ) × (what ≡ Level level) × ¬ (level ≡ row)))
touched_lock row bucket what = (touches_by row bucket what, touches_so row bucket what)
