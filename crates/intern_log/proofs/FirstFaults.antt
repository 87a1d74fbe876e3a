-- The first fault of a log, and the Creates that it reaches, for any way in which a log may be as it should be.
use Rattle.std.proofs.Common.{◌≡◌, ℕ, zero, suc, ◌+◌, ◌<◌, ◌≤◌, Bool, true, false, cond, List, [], ◌∷◌, ◌++◌, ◌↔◌, length, take, drop, nat_lt, refl, sym, ap, subst, ◌∙◌}
use native.Mathlib.Omega.{arith}
use Rattle.std.proofs.lemmas.List.{append_assoc, take_at, take-take, take-append-drop}
use Rattle.std.proofs.lemmas.Bool.{ltb-true, ltb-false}
use Rattle.std.proofs.lemmas.List.Sums.{sum_by-cons}
use Rattle.intern_log.specs.declared.event.Event.{Event}
use Rattle.intern_log.specs.Log.{map_of, Allows, IsLegal}
use Rattle.intern_log.specs.Counts.{is_create, events_in}
use Rattle.intern_log.specs.Faults.{IsFirstFault, IsNotAllowedAt, ReachesCreate}
use Rattle.intern_log.proofs.Logs.{IsLegal-one_more}
use Rattle.intern_log.proofs.FaultLaws.{visible}
use Rattle.intern_log.proofs.OneMore.{count-one_more}

-- the event at a place, between what is before and after it
split_at : (log : List Event) (n : ℕ) → n < length log → (front back : List Event) × (e : Event) × (log ≡ front ++ e ∷ back) × (length front ≡ n)
split_at [] n within = absurd (omega (arith, within))
split_at (x ∷ log) zero within = ([], log, x, refl, refl)
split_at (x ∷ log) (suc n) within =
    let rest = split_at log n (omega (arith, within)) in
    (x ∷ rest.0, rest.1, rest.2, ap (λ l. x ∷ l) rest.3, omega (arith, rest.4))

length_with : (xs : List Event) (e : Event) (ys : List Event) → length (xs ++ e ∷ ys) ≡ length xs + suc (length ys)
length_with [] e ys = omega arith
length_with (x ∷ xs) e ys = let rest = length_with xs e ys in omega (arith, rest)

module _ (log front back : List Event) (e : Event) (n : ℕ) (is : log ≡ front ++ e ∷ back) (at : length front ≡ n) where
  within : n < length log
  within = let count = ap length is ∙ length_with front e back in omega (arith, count, at)

  before : take n log ≡ front
  before = ap (take n) is ∙ take_at front (e ∷ back) n at

  with_it : take (n + 1) log ≡ front ++ e ∷ []
  with_it = let one_more = length_with front e [] in ap (take (n + 1)) (is ∙ sym (append_assoc front (e ∷ []) back)) ∙ take_at (front ++ e ∷ []) back (n + 1) (omega (arith, one_more, at))

module _ (Right : List Event → Type 0) where
  abbrev IsFaultAt : List Event → ℕ → Type 0
  IsFaultAt log n = (n < length log) × Right (take n log) × ¬ (Right (take (n + 1) log))

  fault_at : (log : List Event) (n : ℕ) → IsFirstFault Right log n → IsFaultAt log n
  fault_at log n (front, back, e, is, at, right, wrong) = (
    within log front back e n is at,
    subst Right (sym (before log front back e n is at)) right,
    (λ all. wrong (subst Right (with_it log front back e n is at) all)),
  )

  first_at : (log : List Event) (n : ℕ) → IsFaultAt log n → IsFirstFault Right log n
  first_at log n (inside, right, wrong) =
      let (front, back, e, is, at) = split_at log n inside in
      (front, back, e, is, at, subst Right (before log front back e n is at) right, (λ all. wrong (subst Right (sym (with_it log front back e n is at)) all)))

  pub place_is : (log : List Event) (n : ℕ) → IsFirstFault Right log n ↔ IsFaultAt log n
  place_is log n = (fault_at log n, first_at log n)

-- a log with a Create, around it
abbrev HasCreate : List Event → Type 0
HasCreate log = (front back : List Event) × (e : Event) × (log ≡ front ++ e ∷ back) × (is_create e.what ≡ true)

create_by : (e : Event) (log : List Event) (b : Bool) → is_create e.what ≡ b → 0 < cond b 1 0 + events_in is_create log → (0 < events_in is_create log → HasCreate log) → HasCreate (e ∷ log)
create_by e log true is some later = ([], log, e, refl, is)
create_by e log false is some later = let (front, back, x, at, made) = later (omega (arith, some)) in (e ∷ front, back, x, ap (λ l. e ∷ l) at, made)

create_in : (log : List Event) → 0 < events_in is_create log → HasCreate log
create_in [] some = absurd (omega (arith, some))
create_in (e ∷ log) some =
    let count = sum_by-cons (λ (x : Event). cond (is_create x.what) 1 0) e log in
    create_by e log (is_create e.what) refl (omega (arith, count, some)) (λ rest. create_in log rest)

-- where what begins a log that is as it should be is so too
module _ (Right : List Event → Type 0) (begins : (front rest : List Event) → Right (front ++ rest) → Right front) where
  shorter : (log : List Event) (n m : ℕ) → n ≤ m → Right (take m log) → Right (take n log)
  shorter log n m below right =
      subst Right (take-take n m log below) (begins (take n (take m log)) (drop n (take m log)) (subst Right (sym (take-append-drop n (take m log))) right))

  not_before : (log : List Event) (n m : ℕ) → IsFirstFault Right log n → IsFirstFault Right log m → n < m → ⊥
  not_before log n m first second below = (fault_at Right log n first).2 (shorter log (n + 1) m (omega (arith, below)) (fault_at Right log m second).1)

  pub fault_is_one : (log : List Event) (n m : ℕ) → IsFirstFault Right log n → IsFirstFault Right log m → n ≡ m
  fault_is_one log n m first second = by (nat_lt n m) refl (nat_lt m n) refl
    where
      by : (b : Bool) → nat_lt n m ≡ b → (c : Bool) → nat_lt m n ≡ c → n ≡ m
      by true less c is = absurd (not_before log n m first second (ltb-true n m less))
      by false at_least true less = absurd (not_before log m n second first (ltb-true m n less))
      by false at_least false at_most = let low = ltb-false n m at_least in let high = ltb-false m n at_most in omega (arith, low, high)

  pub create_is_reached : (log : List Event) → ReachesCreate Right log ↔ ((front back : List Event) × (log ≡ front ++ back) × Right front × (0 < events_in is_create front))
  create_is_reached log = (
    (λ (front, back, e, is, made, right).
        let count = count-one_more is_create front e in
        let here = ap {B = ℕ} (λ b. cond b 1 0) made in
        (front ++ e ∷ [], back, is ∙ sym (append_assoc front (e ∷ []) back), right, omega (arith, count, here))),
    (λ (front, back, is, right, some).
        let (first, later, e, at, made) = create_in front some in (
          first,
          later ++ back,
          e,
          is ∙ ap (λ l. l ++ back) at ∙ append_assoc first (e ∷ later) back,
          made,
          begins (first ++ e ∷ []) later (subst Right (at ∙ sym (append_assoc first (e ∷ []) later)) right),
        )),
  )

pub fault_is_not_allowed : (log : List Event) (n : ℕ) → IsFirstFault IsLegal log n ↔ (IsLegal (take n log) × IsNotAllowedAt log n)
fault_is_not_allowed log n = (
  (λ (front, back, e, is, at, legal, wrong).
      let not : ¬ (Allows (map_of front) e.what) = λ allowed. wrong ((IsLegal-one_more front e).1 (legal, allowed)) in
      (subst IsLegal (sym (before log front back e n is at)) legal, (front, back, e, is, at, visible (map_of front) e.what not, not))),
  (λ (legal, (front, back, e, is, at, seen, not)).
      (front, back, e, is, at, subst IsLegal (before log front back e n is at) legal, (λ all. not ((IsLegal-one_more front e).0 all).1))),
)
