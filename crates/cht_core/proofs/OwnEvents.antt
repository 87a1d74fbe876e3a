-- What the events of a caller come to, event by event, and for two callers together.
use Rattle.std.proofs.Common.{◌≡◌, ℕ, ◌+◌, ◌≤◌, Bool, true, false, cond, ◌&&◌, ◌||◌, List, [], ◌∷◌, ◌++◌, refl, sym, ap, ◌∙◌, slice_index_or, arith}
use Rattle.std.specs.Prelude.{nat_eq}
use Rattle.std.specs.List.{All, sum_by}
use Rattle.std.proofs.lemmas.Bool.Decides.{Decides-eqb}
use Rattle.std.proofs.lemmas.List.Folds.{list_any-append}
use Rattle.std.proofs.lemmas.List.Sums.{sum_by-cons, sum_by_push, sum_by-le}
use Rattle.intern_log.specs.declared.event.Event.{Event}
use Rattle.intern_log.specs.declared.event.What.{What}
use Rattle.intern_log.specs.Counts.{events_in}
use Rattle.intern_log.specs.Own.{is_visible, is_among, mine}

-- what an event adds to the events that pass a test among those of a caller
abbrev pub own_share : (What → Bool) → List ℕ → Event → ℕ
own_share test numbers e = cond (is_visible e.what && is_among numbers e.seat) (cond (test e.what) 1 0) 0

-- the events of a caller that pass a test, as a sum over the whole log
pub own_is_sum : (test : What → Bool) (numbers : List ℕ) (log : List Event) → events_in test (mine log numbers) ≡ sum_by (own_share test numbers) log
own_is_sum test numbers [] = refl
own_is_sum test numbers (e ∷ log) =
    first (is_visible e.what && is_among numbers e.seat) ∙ ap (λ n. own_share test numbers e + n) (own_is_sum test numbers log) ∙ sym (sum_by-cons (own_share test numbers) e log)
  where
    first : (b : Bool) → events_in test (cond b (e ∷ mine log numbers) (mine log numbers)) ≡ cond b (cond (test e.what) 1 0) 0 + events_in test (mine log numbers)
    first true = sum_by-cons (λ (x : Event). cond (test x.what) 1 0) e (mine log numbers)
    first false = omega arith

-- the same by one more event
pub own_one_more : (test : What → Bool) (numbers : List ℕ) (log : List Event) (e : Event) →
    events_in test (mine (log ++ e ∷ []) numbers) ≡ events_in test (mine log numbers) + own_share test numbers e
own_one_more test numbers log e =
    own_is_sum test numbers (log ++ e ∷ []) ∙ sum_by_push (own_share test numbers) log e ∙ ap (λ n. n + own_share test numbers e) (sym (own_is_sum test numbers log))

-- a caller by whose numbers no event was made has none
pub own_of_nobody : (test : What → Bool) (numbers : List ℕ) (log : List Event) → All (λ (e : Event). is_visible e.what ≡ true → is_among numbers e.seat ≡ false) log →
    events_in test (mine log numbers) ≡ 0
own_of_nobody test numbers log unheard =
    let sum = own_is_sum test numbers log in
    let none = sum_by-le (own_share test numbers) 0 log (λ at d inside. nothing (slice_index_or log at d) (unheard at d inside)) in
    omega (arith, sum, none)
  where
    nothing : (e : Event) → (is_visible e.what ≡ true → is_among numbers e.seat ≡ false) → own_share test numbers e ≤ 0
    nothing e none = go (is_visible e.what) (is_among numbers e.seat) none
      where
        go : (v a : Bool) → (v ≡ true → a ≡ false) → cond (v && a) (cond (test e.what) 1 0) 0 ≤ 0
        go false a none = omega arith
        go true false none = omega arith
        go true true none = let never : true ≡ false = none refl in absurd (cc)

-- two lists of numbers have none in common
abbrev pub AreApart : List ℕ → List ℕ → Type 0
AreApart a b = (number : ℕ) → is_among a number ≡ true → is_among b number ≡ true → ⊥

-- a number is among two lists together where it is among one of them
pub among_both : (a b : List ℕ) (number : ℕ) → is_among (a ++ b) number ≡ (is_among a number || is_among b number)
among_both a b number = list_any-append (nat_eq number) a b

share_both : (test : What → Bool) (a b : List ℕ) (e : Event) → AreApart a b → own_share test (a ++ b) e ≡ own_share test a e + own_share test b e
share_both test a b e apart =
    ap (λ c. cond (is_visible e.what && c) (cond (test e.what) 1 0) 0) (among_both a b e.seat)
    ∙ go (is_visible e.what) (is_among a e.seat) (is_among b e.seat) (cond (test e.what) 1 0) (apart e.seat)
  where
    go : (v x y : Bool) (n : ℕ) → (x ≡ true → y ≡ true → ⊥) → cond (v && (x || y)) n 0 ≡ cond (v && x) n 0 + cond (v && y) n 0
    go false x y n apart = refl
    go true true true n apart = absurd (apart refl refl)
    go true true false n apart = omega arith
    go true false y n apart = omega arith

-- two callers with no number in common have together what each has
pub own_of_both : (test : What → Bool) (a b : List ℕ) (log : List Event) → AreApart a b →
    events_in test (mine log (a ++ b)) ≡ events_in test (mine log a) + events_in test (mine log b)
own_of_both test a b log apart =
    let whole = own_is_sum test (a ++ b) log in
    let first = own_is_sum test a log in
    let second = own_is_sum test b log in
    let sums = sum log in
    omega (arith, whole, first, second, sums)
  where
    sum : (log : List Event) → sum_by (own_share test (a ++ b)) log ≡ sum_by (own_share test a) log + sum_by (own_share test b) log
    sum [] = refl
    sum (e ∷ log) =
        let whole = sum_by-cons (own_share test (a ++ b)) e log in
        let first = sum_by-cons (own_share test a) e log in
        let second = sum_by-cons (own_share test b) e log in
        let here = share_both test a b e apart in
        let rest = sum log in
        omega (arith, whole, first, second, here, rest)

-- a number is among a list of one where it is the same
pub among_one : (k number : ℕ) → is_among (k ∷ []) number ≡ true → number ≡ k
among_one k number is = go (nat_eq number k) (Decides-eqb number k).0 is
  where
    go : (b : Bool) → (b ≡ true → number ≡ k) → (b || false) ≡ true → number ≡ k
    go true same is = same refl
    go false same is = absurd (cc)
