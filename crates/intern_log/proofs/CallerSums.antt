-- Sums over the callers of a log: each visible event is counted once.
use Rattle.std.proofs.Common.{◌≡◌, ℕ, ◌+◌, ◌<◌, ◌≤◌, Bool, true, false, cond, ◌&&◌, List, [], ◌∷◌, zero, suc, length, refl, ap, ◌∙◌}
use native.Mathlib.Omega.{arith}
use Rattle.std.specs.Prelude.{count_by}
use Rattle.std.specs.List.{All, Any, sum_by}
use Rattle.std.proofs.lemmas.List.Elements.{All-head, All-tail}
use Rattle.std.proofs.lemmas.List.Sums.{sum_by-cons}
use Rattle.intern_log.specs.declared.event.Handle.{Handle}
use Rattle.intern_log.specs.declared.event.Event.{Event}
use Rattle.intern_log.specs.declared.event.What.{What}
use Rattle.intern_log.specs.declared.event.What.TheVariants.{Create, Take, Drop}
use Rattle.intern_log.specs.Own.{is_visible, is_among, mine, is_gain, is_loss, gains, losses}
use Rattle.intern_log.specs.Counts.{events_in}
use Rattle.intern_log.specs.Callers.{AreCallers}

abbrev one_if : Bool → ℕ
one_if b = cond b 1 0

sum_by-same : {X : Type 0} (f g : X → ℕ) (xs : List X) → ((x : X) → f x ≡ g x) → sum_by f xs ≡ sum_by g xs
sum_by-same f g xs same = ap (λ k. sum_by k xs) (λ i x. same x i)

sum_by-nothing : {X : Type 0} (xs : List X) → sum_by (λ (x : X). 0) xs ≡ 0
sum_by-nothing [] = refl
sum_by-nothing {X} (x ∷ xs) = sum_by-cons (λ (y : X). 0) x xs ∙ ap (λ n. 0 + n) (sum_by-nothing xs)

sum_by-both : {X : Type 0} (f g : X → ℕ) (xs : List X) → sum_by (λ x. f x + g x) xs ≡ sum_by f xs + sum_by g xs
sum_by-both f g [] = refl
sum_by-both f g (x ∷ xs) =
    let whole = sum_by-cons (λ y. f y + g y) x xs in
    let first = sum_by-cons f x xs in
    let second = sum_by-cons g x xs in
    let rest = sum_by-both f g xs in
    omega (arith, whole, first, second, rest)

pub sum_by-le : {X : Type 0} (f g : X → ℕ) (xs : List X) → All (λ x. f x ≤ g x) xs → sum_by f xs ≤ sum_by g xs
sum_by-le f g [] below = omega arith
sum_by-le f g (x ∷ xs) below =
    let first = sum_by-cons f x xs in
    let second = sum_by-cons g x xs in
    let here : f x ≤ g x = All-head (λ y. f y ≤ g y) x xs below in
    let rest = sum_by-le f g xs (All-tail (λ y. f y ≤ g y) x xs below) in
    omega (arith, first, second, here, rest)

pub sum_by-lt : {X : Type 0} (f g : X → ℕ) (xs : List X) → All (λ x. f x ≤ g x) xs → Any (λ x. f x < g x) xs → sum_by f xs < sum_by g xs
sum_by-lt f g [] below (k, x, within, at, less) = absurd (omega (arith, within))
sum_by-lt f g (x ∷ xs) below (zero, y, within, at, less) =
    let first = sum_by-cons f x xs in
    let second = sum_by-cons g x xs in
    let here : f x < g x = subst_less f g x y at less in
    let rest = sum_by-le f g xs (All-tail (λ y. f y ≤ g y) x xs below) in
    omega (arith, first, second, here, rest)
  where
    subst_less : {X : Type 0} (f g : X → ℕ) (x y : X) → x ≡ y → f y < g y → f x < g x
    subst_less f g x y same less = let left = ap f same in let right = ap g same in omega (arith, left, right, less)
sum_by-lt f g (x ∷ xs) below (suc k, y, within, at, less) =
    let first = sum_by-cons f x xs in
    let second = sum_by-cons g x xs in
    let here : f x ≤ g x = All-head (λ y. f y ≤ g y) x xs below in
    let inside : k < length xs = omega (arith, within) in
    let rest = sum_by-lt f g xs (All-tail (λ y. f y ≤ g y) x xs below) (k, y, inside, at, less) in
    omega (arith, first, second, here, rest)

-- an event is counted among a caller's own where it passes and its number is among the caller's
own_count : (test : What → Bool) (e : Event) (log : List Event) (numbers : List ℕ) → (test e.what ≡ true → is_visible e.what ≡ true) →
    events_in test (mine (e ∷ log) numbers) ≡ cond (is_among numbers e.seat) (one_if (test e.what)) 0 + events_in test (mine log numbers)
own_count test e log numbers seen = by (test e.what) (is_visible e.what) (is_among numbers e.seat) refl seen
  where
    by : (t v a : Bool) → test e.what ≡ t → (t ≡ true → v ≡ true) →
        events_in test (cond (v && a) (e ∷ mine log numbers) (mine log numbers)) ≡ cond a (one_if t) 0 + events_in test (mine log numbers)
    by t true true is visible = sum_by-cons (λ (x : Event). one_if (test x.what)) e (mine log numbers) ∙ ap (λ b. one_if b + events_in test (mine log numbers)) is
    by t true false is visible = omega arith
    by true false a is visible = let never : false ≡ true = visible refl in absurd (cc)
    by false false true is visible = omega arith
    by false false false is visible = omega arith

-- the shares of the callers in one event
shares : (test : What → Bool) (e : Event) (callers : List (List ℕ)) → (test e.what ≡ true → is_visible e.what ≡ true) →
    (is_visible e.what ≡ true → count_by (λ numbers. is_among numbers e.seat) callers ≡ 1) →
    sum_by (λ numbers. cond (is_among numbers e.seat) (one_if (test e.what)) 0) callers ≡ one_if (test e.what)
shares test e callers seen shared = by (test e.what) seen
  where
    nobody : (b : Bool) → cond b (one_if false) 0 ≡ one_if false
    nobody true = refl
    nobody false = refl

    by : (t : Bool) → (t ≡ true → is_visible e.what ≡ true) → sum_by (λ numbers. cond (is_among numbers e.seat) (one_if t) 0) callers ≡ one_if t
    by true visible = shared (visible refl)
    by false visible = sum_by-same _ (λ numbers. 0) callers (λ numbers. nobody (is_among numbers e.seat)) ∙ sum_by-nothing callers

-- what is counted of a log is what is counted of its callers' own events together
pub shared_count : (test : What → Bool) → ((what : What) → test what ≡ true → is_visible what ≡ true) → (callers : List (List ℕ)) (log : List Event) → AreCallers callers log →
    sum_by (λ numbers. events_in test (mine log numbers)) callers ≡ events_in test log
shared_count test seen callers [] shared = sum_by-nothing callers
shared_count test seen callers (e ∷ log) shared =
    let IsShared = λ (x : Event). is_visible x.what ≡ true → count_by (λ numbers. is_among numbers x.seat) callers ≡ 1 in
    let split = sum_by-same _ _ callers (λ numbers. own_count test e log numbers (seen e.what)) in
    let sums = sum_by-both (λ numbers. cond (is_among numbers e.seat) (one_if (test e.what)) 0) (λ numbers. events_in test (mine log numbers)) callers in
    let here = shares test e callers (seen e.what) (All-head IsShared e log shared) in
    let rest = shared_count test seen callers log (All-tail IsShared e log shared) in
    let whole = sum_by-cons (λ (x : Event). one_if (test x.what)) e log in
    split ∙ sums ∙ omega (arith, here, rest, whole)

gain_is_seen : (h : Handle) (what : What) → is_gain what h ≡ true → is_visible what ≡ true
gain_is_seen h (Create t k) gain = refl
gain_is_seen h (Take t k) gain = refl
gain_is_seen h _ gain = absurd (cc)

loss_is_seen : (h : Handle) (what : What) → is_loss what h ≡ true → is_visible what ≡ true
loss_is_seen h (Drop k) loss = refl
loss_is_seen h _ loss = absurd (cc)

pub shared_gains : (callers : List (List ℕ)) (log : List Event) (h : Handle) → AreCallers callers log → sum_by (λ numbers. gains (mine log numbers) h) callers ≡ gains log h
shared_gains callers log h shared = shared_count (λ what. is_gain what h) (gain_is_seen h) callers log shared

pub shared_losses : (callers : List (List ℕ)) (log : List Event) (h : Handle) → AreCallers callers log → sum_by (λ numbers. losses (mine log numbers) h) callers ≡ losses log h
shared_losses callers log h shared = shared_count (λ what. is_loss what h) (loss_is_seen h) callers log shared
