-- Parts that are no line, or no call, since their first word is that of another.
use Rattle.std.proofs.Common.{◌≡◌, ◌≢◌, ℕ, List, ◌∷◌, false, sym, ◌∙◌, ap, arith, get_or, drop}
use Rattle.std.specs.Str.{bytes_eq}
use Rattle.std.proofs.lemmas.Slice.Eq.{bytes_eq-Decides}

-- the first of equal lists, and the others
pub head_of : {A : Type 0} (a b : A) (p q : List A) → a ∷ p ≡ b ∷ q → a ≡ b
head_of a b p q is = ap (λ l. get_or l 0 a) is

pub tail_of : {A : Type 0} (a b : A) (p q : List A) → a ∷ p ≡ b ∷ q → p ≡ q
tail_of a b p q is = ap (λ l. drop 1 l) is

-- two words that differ
pub differ : (a b : List ℕ) → bytes_eq a b ≡ false → a ≢ b
differ a b other is = grind (arith, bytes_eq-Decides a b)

-- what stands behind the first part of a list that begins in two ways is one
pub peel : (a b : List ℕ) (whole p q : List (List ℕ)) → whole ≡ a ∷ p → whole ≡ b ∷ q → p ≡ q
peel a b whole p q one other = tail_of a b p q (sym one ∙ other)
