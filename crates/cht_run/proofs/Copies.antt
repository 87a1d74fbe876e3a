-- The words of a closed table are copied one by one.
use Rattle.std.proofs.Common.{◌≡◌, ℕ, zero, suc, ◌+◌, ◌<◌, List, [], ◌∷◌, length, set, get_or, inl, inr, refl, sym, ap, ◌∙◌, arith}
use Rattle.std.proofs.lemmas.Bool.{cases_eq}
use Rattle.std.proofs.lemmas.List.{length-set, get_or-set_same, get_or-set_other}
use mathlib.Core.Option.{some, some-injective, some-ne-none}
use lib.ListN.{get_elem?}

-- so many of the words are the same
pub record Copied (from to : List ℕ) (done : ℕ) : Type 0 where
  pub long : length to ≡ length from
  pub same : (k : ℕ) → k < done → get_or to k 0 ≡ get_or from k 0

word_at_place : (from : List ℕ) (i word : ℕ) → get_elem? from i ≡ some word → get_or from i 0 ≡ word
word_at_place [] i word is = absurd (some-ne-none word (sym is))
word_at_place (x ∷ from) zero word is = some-injective x word is
word_at_place (x ∷ from) (suc i) word is = word_at_place from i word is

pub copied_one : (from to : List ℕ) (i word : ℕ) → Copied from to i → i < length to → get_elem? from i ≡ some word → Copied from (set to i word) (i + 1)
copied_one from to i word copied inside is = record {
  long = length-set to i word ∙ copied.long;
  same = λ k below. elim (cases_eq k i) [
    | inl here ↦ ap (λ j. get_or (set to i word) j 0) here ∙ get_or-set_same to i word 0 inside ∙ sym (word_at_place from i word is) ∙ ap (λ j. get_or from j 0) (sym here)
    | inr differ ↦ get_or-set_other to i k word 0 differ ∙ copied.same k (omega (arith, below, differ))
  ];
}

all_same : (from to : List ℕ) → length to ≡ length from → ((k : ℕ) → k < length from → get_or to k 0 ≡ get_or from k 0) → to ≡ from
all_same [] [] long same = refl
all_same [] (y ∷ to) long same = absurd (omega (arith, long))
all_same (x ∷ from) [] long same = absurd (omega (arith, long))
all_same (x ∷ from) (y ∷ to) long same =
    let first : y ≡ x = same zero (omega arith) in
    ap (λ z. z ∷ to) first ∙ ap (λ l. x ∷ l) (all_same from to (omega (arith, long)) (λ k below. same (suc k) (omega (arith, below))))

pub copied_all : (from to : List ℕ) (done : ℕ) → Copied from to done → done ≡ length from → to ≡ from
copied_all from to done copied is = all_same from to copied.long (λ k below. copied.same k (omega (arith, below, is)))
