-- The numbers of the kinds of step are small.
use Rattle.std.proofs.Common.{◌≡◌, ℕ, ◌<◌, ◌^◌, List, [], ◌∷◌, ap, refl, sym, ◌∙◌, drop, get_or, arith}
use Rattle.std.specs.Prelude.{decimal}
use Rattle.std.proofs.lemmas.Fmt.{decimal_injective}
use Rattle.atomic_step.specs.declared.access.StepKind.{StepKind}
use Rattle.atomic_step.specs.declared.access.StepKind.TheVariants.{K1, K2, K3, K4, K5, K6, K7, K8, K9, K10, K11, K12, K13, K14, K15, K16, K17, K18, K19, K20, K21, K22, K23, K24, K25, K26}
use Rattle.schedule_sim.specs.Line.{kind_number, kind_word}

pub kind_small : (kind : StepKind) → kind_number kind < 2 ^ 64
kind_small K1 = omega arith
kind_small K2 = omega arith
kind_small K3 = omega arith
kind_small K4 = omega arith
kind_small K5 = omega arith
kind_small K6 = omega arith
kind_small K7 = omega arith
kind_small K8 = omega arith
kind_small K9 = omega arith
kind_small K10 = omega arith
kind_small K11 = omega arith
kind_small K12 = omega arith
kind_small K13 = omega arith
kind_small K14 = omega arith
kind_small K15 = omega arith
kind_small K16 = omega arith
kind_small K17 = omega arith
kind_small K18 = omega arith
kind_small K19 = omega arith
kind_small K20 = omega arith
kind_small K21 = omega arith
kind_small K22 = omega arith
kind_small K23 = omega arith
kind_small K24 = omega arith
kind_small K25 = omega arith
kind_small K26 = omega arith

-- the digits behind the letter are those of the kind's number
pub kind_is : (name : List ℕ) (n : ℕ) (kind : StepKind) → n < 2 ^ 64 → drop 1 name ≡ decimal n → name ≡ kind_word kind → n ≡ kind_number kind
kind_is name n kind small digits is = decimal_injective n (kind_number kind) small (kind_small kind) (sym digits ∙ ap (drop 1) is)

-- a number is of one kind
abbrev all_kinds : List StepKind
all_kinds = K1 ∷ K1 ∷ K2 ∷ K3 ∷ K4 ∷ K5 ∷ K6 ∷ K7 ∷ K8 ∷ K9 ∷ K10 ∷ K11 ∷ K12 ∷ K13 ∷ K14 ∷ K15 ∷ K16 ∷ K17 ∷ K18 ∷ K19 ∷ K20 ∷ K21 ∷ K22 ∷ K23 ∷ K24 ∷ K25 ∷ K26 ∷ []

kind_back : (kind : StepKind) → get_or all_kinds (kind_number kind) K1 ≡ kind
kind_back K1 = refl
kind_back K2 = refl
kind_back K3 = refl
kind_back K4 = refl
kind_back K5 = refl
kind_back K6 = refl
kind_back K7 = refl
kind_back K8 = refl
kind_back K9 = refl
kind_back K10 = refl
kind_back K11 = refl
kind_back K12 = refl
kind_back K13 = refl
kind_back K14 = refl
kind_back K15 = refl
kind_back K16 = refl
kind_back K17 = refl
kind_back K18 = refl
kind_back K19 = refl
kind_back K20 = refl
kind_back K21 = refl
kind_back K22 = refl
kind_back K23 = refl
kind_back K24 = refl
kind_back K25 = refl
kind_back K26 = refl

pub one_kind : (a b : StepKind) → kind_word a ≡ kind_word b → a ≡ b
one_kind a b is = sym (kind_back a) ∙ ap (λ n. get_or all_kinds n K1) (kind_is (kind_word a) (kind_number a) b (kind_small a) refl is) ∙ kind_back b
