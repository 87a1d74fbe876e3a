-- Small facts that many laws use.
use Rattle.std.proofs.Common.{◌≡◌, ◌≢◌, ℕ, ◌⊎◌, refl, sym, ap, subst, ◌∙◌, inl, inr, cond}
use Rattle.std.specs.Prelude.{◌==◌, if◌then◌else◌}
use Rattle.std.proofs.lemmas.Bool.{cases_eq, eq-eqb, ne_eqb}
use Rattle.intern_log.specs.Now.{with_at}
use Rattle.table_shape.specs.declared.place.Place.{Place}
use Rattle.table_shape.specs.declared.place.Place.TheVariants as place
use Rattle.atomic_step.specs.declared.access.Deed.TheVariants as deed
use Rattle.atomic_step.specs.declared.step.Step.{Step}
use Rattle.atomic_step.specs.Access.{word_after}
use Rattle.atomic_step.specs.Step.{access_of}
use Rattle.cht_core.specs.Memory.{Memory, IsMade, found}

pub with_here : {A : Type 0} (g : ℕ → A) (k : ℕ) (value : A) (n : ℕ) → n ≡ k → with_at g k value n ≡ value
with_here g k value n is = ap (λ b. cond b value (g n)) (eq-eqb n k is)

pub with_other : {A : Type 0} (g : ℕ → A) (k : ℕ) (value : A) (n : ℕ) → n ≢ k → with_at g k value n ≡ g n
with_other g k value n differ = ap (λ b. cond b value (g n)) (ne_eqb n k differ)

-- a place as three numbers, and back
kind_number : Place → ℕ
kind_number place.Draws = 0
kind_number place.Counter = 1
kind_number place.ResizeLock = 2
kind_number place.Level = 3
kind_number place.NewLevel = 4
kind_number (place.Section a) = 5
kind_number (place.Head a b) = 6
kind_number (place.Claim a) = 7
kind_number (place.Link a) = 8
kind_number (place.Count a) = 9
kind_number (place.Meta a) = 10
kind_number (place.Text a b) = 11

first_number : Place → ℕ
first_number (place.Section a) = a
first_number (place.Head a b) = a
first_number (place.Claim a) = a
first_number (place.Link a) = a
first_number (place.Count a) = a
first_number (place.Meta a) = a
first_number (place.Text a b) = a
first_number _ = 0

second_number : Place → ℕ
second_number (place.Head a b) = b
second_number (place.Text a b) = b
second_number _ = 0

from_numbers : ℕ → ℕ → ℕ → Place
from_numbers kind a b =
    if kind == 0 then place.Draws else if kind == 1 then place.Counter else if kind == 2 then place.ResizeLock else if kind == 3 then place.Level
    else if kind == 4 then place.NewLevel else if kind == 5 then place.Section a else if kind == 6 then place.Head a b else if kind == 7 then place.Claim a
    else if kind == 8 then place.Link a else if kind == 9 then place.Count a else if kind == 10 then place.Meta a else place.Text a b

comes_back : (p : Place) → from_numbers (kind_number p) (first_number p) (second_number p) ≡ p
unfolding from_numbers kind_number first_number second_number
comes_back place.Draws = refl
comes_back place.Counter = refl
comes_back place.ResizeLock = refl
comes_back place.Level = refl
comes_back place.NewLevel = refl
comes_back (place.Section a) = refl
comes_back (place.Head a b) = refl
comes_back (place.Claim a) = refl
comes_back (place.Link a) = refl
comes_back (place.Count a) = refl
comes_back (place.Meta a) = refl
comes_back (place.Text a b) = refl

-- two places are the same or not
pub place_cases : (p q : Place) → (p ≡ q) ⊎ (p ≢ q)
place_cases p q = elim (cases_eq (kind_number p) (kind_number q)) [
  | inr kinds ↦ inr (λ same. kinds (ap kind_number same))
  | inl kinds ↦ elim (cases_eq (first_number p) (first_number q)) [
    | inr firsts ↦ inr (λ same. firsts (ap first_number same))
    | inl firsts ↦ elim (cases_eq (second_number p) (second_number q)) [
      | inr seconds ↦ inr (λ same. seconds (ap second_number same))
      | inl seconds ↦ inl (sym (comes_back p) ∙ ap (λ k. from_numbers k (first_number p) (second_number p)) kinds ∙ ap (λ a. from_numbers (kind_number q) a (second_number p)) firsts
          ∙ ap (λ b. from_numbers (kind_number q) (first_number q) b) seconds ∙ comes_back q)
    ]
  ]
]

-- two memories with the same words are one
pub same_memory : (m m' : Memory) → ((p : Place) → m' p ≡ m p) → m' ≡ m
same_memory m m' same = λ i p. same p i

-- what holds of the word of a step's place and of all others
pub at_places : (s : Step) (m m' : Memory) (P : Place → ℕ → Type 0) → IsMade s m m' → P (access_of s).place (word_after (access_of s).deed (found s m))
    → ((p : Place) → p ≢ (access_of s).place → P p (m p)) → (p : Place) → P p (m' p)
at_places s m m' P made here there p = elim (place_cases p (access_of s).place) [
  | inl same ↦ subst (λ q. P q (m' q)) (sym same) (subst (P (access_of s).place) (sym made.here) here)
  | inr differ ↦ subst (P p) (sym (made.there p differ)) (there p differ)
]

-- a step that leaves its word changes nothing
pub after_same : (s : Step) (m m' : Memory) → word_after (access_of s).deed (found s m) ≡ found s m → IsMade s m m' → m' ≡ m
after_same s m m' same made = same_memory m m' (λ p. elim (place_cases p (access_of s).place) [
  | inl is ↦ subst (λ q. m' q ≡ m q) (sym is) (made.here ∙ same)
  | inr differ ↦ made.there p differ
])

-- a load changes nothing
pub after_load : (s : Step) (m m' : Memory) → (access_of s).deed ≡ deed.Load → IsMade s m m' → m' ≡ m
after_load s m m' load made = after_same s m m' (ap (λ d. word_after d (found s m)) load) made
