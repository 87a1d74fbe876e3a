-- What one event makes of each part of a log's end, and each part as a fold over the events.
use Rattle.std.proofs.Common.{◌≡◌, ℕ, ◌+◌, Bool, true, false, cond, List, [], ◌∷◌, Option, Some, None, refl, sym, ap, ◌∙◌}
use native.Mathlib.Omega.{arith}
use Rattle.std.specs.Prelude.{nat_eq, count_by}
use Rattle.std.specs.List.{fold, enumerate_from}
use Rattle.std.specs.Option.{option_map}
use Rattle.std.proofs.lemmas.List.Sums.{sum_by-cons}
use Rattle.intern_log.specs.declared.event.Event.{Event}
use Rattle.intern_log.specs.declared.event.What.{What}
use Rattle.intern_log.specs.declared.event.What.TheVariants.{Create, Claim, Free, Open, Close, Grace, Lock, Unlink, Rehash}
use Rattle.intern_log.specs.Now.{OpenSection, Resizing, Now, resizing_after_lock, changed_by, now_after_event, now_after}
use Rattle.intern_log.specs.Orderly.{is_grace, level_after_event}
use Rattle.intern_log.specs.Seeded.{seed_after_event}
use Rattle.log_check.specs.Parts.{phase_seen, phase_by, section_by, lock_by, owner_by}

-- where the section of a seat was opened, and who has the resize lock
abbrev pub place_in : Option OpenSection → Option ℕ
place_in section = option_map (λ (o : OpenSection). o.place) section

abbrev pub opened_in : Now → ℕ → Option ℕ
opened_in now k = place_in (now.section k)

abbrev pub seat_in : Option Resizing → Option ℕ
seat_in resizing = option_map (λ (r : Resizing). r.seat) resizing

abbrev pub owner_in : Now → Option ℕ
owner_in now = seat_in now.resizing

-- each part after an event is its step from the part before
pub record FollowsByPart (now : Now) (seat : ℕ) (what : What) : Type 0 where
  pub phase : (slot : ℕ) → phase_seen ((changed_by now seat what).slot slot) ≡ phase_by slot (phase_seen (now.slot slot)) now.place seat what
  pub section : (k : ℕ) → opened_in (changed_by now seat what) k ≡ section_by k (opened_in now k) now.place seat what
  pub lock : (row bucket : ℕ) → (changed_by now seat what).lock row bucket ≡ lock_by row bucket (now.lock row bucket) seat what
  pub owner : owner_in (changed_by now seat what) ≡ owner_by (owner_in now) seat what
  pub level : (changed_by now seat what).level ≡ level_after_event now.level what
  pub graces : (changed_by now seat what).graces ≡ now.graces + cond (is_grace what) 1 0
  pub seed : (changed_by now seat what).seed ≡ seed_after_event now.seed what

-- a choice of two, seen through a function
through : {A B : Type 0} (f : A → B) (b : Bool) (x y : A) → f (cond b x y) ≡ cond b (f x) (f y)
through f true x y = refl
through f false x y = refl

-- a choice of the same
same_both : {A : Type 0} (b : Bool) (x : A) → cond b x x ≡ x
same_both true x = refl
same_both false x = refl

-- a Lock leaves who has the resize lock
same_resizer : (seat row : ℕ) (resizing : Option Resizing) → seat_in (option_map (resizing_after_lock seat row) resizing) ≡ seat_in resizing
same_resizer seat row None = refl
same_resizer seat row (Some r) = refl

pub follows_by_part : (now : Now) (seat : ℕ) (what : What) → FollowsByPart now seat what
follows_by_part now seat (Create t h) = record { phase = λ s. through phase_seen (nat_eq s h.slot) _ _; section = λ k. sym (same_both (nat_eq k seat) _); lock = λ r b. refl; owner = refl; level = refl; graces = omega arith; seed = refl }
follows_by_part now seat (Claim x) = record { phase = λ s. through phase_seen (nat_eq s x) _ _; section = λ k. sym (same_both (nat_eq k seat) _); lock = λ r b. refl; owner = refl; level = refl; graces = omega arith; seed = refl }
follows_by_part now seat (Free x) = record { phase = λ s. through phase_seen (nat_eq s x) _ _; section = λ k. sym (same_both (nat_eq k seat) _); lock = λ r b. refl; owner = refl; level = refl; graces = omega arith; seed = refl }
follows_by_part now seat (Unlink x) = record { phase = λ s. through phase_seen (nat_eq s x) _ _; section = λ k. sym (same_both (nat_eq k seat) _); lock = λ r b. refl; owner = refl; level = refl; graces = omega arith; seed = refl }
follows_by_part now seat (Open c) = record { phase = λ s. refl; section = λ k. through place_in (nat_eq k seat) _ _; lock = λ r b. refl; owner = refl; level = refl; graces = omega arith; seed = refl }
follows_by_part now seat Close = record { phase = λ s. refl; section = λ k. through place_in (nat_eq k seat) _ _; lock = λ r b. refl; owner = refl; level = refl; graces = omega arith; seed = refl }
follows_by_part now seat Grace = record { phase = λ s. refl; section = λ k. sym (same_both (nat_eq k seat) _); lock = λ r b. refl; owner = refl; level = refl; graces = refl; seed = refl }
follows_by_part now seat (Lock x y) = record { phase = λ s. refl; section = λ k. sym (same_both (nat_eq k seat) _); lock = λ r b. refl; owner = same_resizer seat x now.resizing; level = refl; graces = omega arith; seed = refl }
follows_by_part now seat (Rehash n) = record { phase = λ s. refl; section = λ k. sym (same_both (nat_eq k seat) _); lock = λ r b. refl; owner = refl; level = refl; graces = omega arith; seed = refl }
follows_by_part now seat _ = record { phase = λ s. refl; section = λ k. sym (same_both (nat_eq k seat) _); lock = λ r b. refl; owner = refl; level = refl; graces = omega arith; seed = refl }

-- a part that each event changes by a step is the fold of that step, with the places or without them
pub part_by_place : {A : Type 0} (part : Now → A) (step : A → ℕ × Event → A) → ((now : Now) (e : Event) → part (now_after_event now e) ≡ step (part now) (now.place, e)) →
    (now : Now) (log : List Event) → fold step (part now) (enumerate_from now.place log) ≡ part (now_after now log)
part_by_place part step one now [] = refl
part_by_place part step one now (e ∷ log) = ap (λ a. fold step a (enumerate_from (now.place + 1) log)) (sym (one now e)) ∙ part_by_place part step one (now_after_event now e) log

pub part_by_event : {A : Type 0} (part : Now → A) (step : A → Event → A) → ((now : Now) (e : Event) → part (now_after_event now e) ≡ step (part now) e) →
    (now : Now) (log : List Event) → fold step (part now) log ≡ part (now_after now log)
part_by_event part step one now [] = refl
part_by_event part step one now (e ∷ log) = ap (λ a. fold step a log) (sym (one now e)) ∙ part_by_event part step one (now_after_event now e) log

-- the graces are counted
pub graces_counted : (now : Now) (log : List Event) → now.graces + count_by (λ (e : Event). is_grace e.what) log ≡ (now_after now log).graces
graces_counted now [] = omega arith
graces_counted now (e ∷ log) =
    let more = graces_counted (now_after_event now e) log in
    let one = (follows_by_part now e.seat e.what).graces in
    let count = sum_by-cons (λ (x : Event). cond (is_grace x.what) 1 0) e log in
    omega (arith, more, one, count)
