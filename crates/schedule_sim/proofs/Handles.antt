-- The parts of a handle.
use Rattle.std.proofs.Common.{◌≡◌, ◌≢◌, ℕ, ◌<◌, ◌==◌, List, [], ◌∷◌, false, refl, sym, ◌∙◌, ap, arith, All}
use Rattle.std.specs.Prelude.{decimal}
use Rattle.std.specs.Char.{digit_value}
use Rattle.std.specs.Str.Parse.{AllDigits}
use Rattle.std.specs.List.{join_with_byte}
use Rattle.std.proofs.lemmas.Bool.{ne_eqb}
use Rattle.std.proofs.lemmas.List.Elements.{All-nil, All-cons}
use Rattle.std.proofs.lemmas.Fmt.{decimal_is_IsNumeral}
use Rattle.std.proofs.lemmas.List.Splits.{slice_split_at, slice_split_none, join_with_byte-slice_split}
use Rattle.schedule_sim.specs.Parts.{parts_at}
use Rattle.schedule_sim.specs.Line.{handle_word, IsNumber}

-- no digit is a point
digit_no_point : (c : ℕ) → digit_value c < 10 → c ≢ 46
digit_no_point c digit is =
    let value : digit_value c ≡ 36 = ap digit_value is in
    omega arith

no_point : (ds : List ℕ) → AllDigits 10 ds → All (λ b. (b == 46) ≡ false) ds
no_point [] digits = All-nil (λ b. (b == 46) ≡ false)
no_point (c ∷ cs) digits = All-cons (λ b. (b == 46) ≡ false) c cs (ne_eqb c 46 (digit_no_point c digits.0)) (no_point cs digits.1)

pub handle_parts : (slot generation : ℕ) → IsNumber slot → IsNumber generation → parts_at 46 (handle_word slot generation) ≡ decimal slot ∷ decimal generation ∷ []
handle_parts slot generation small below =
    slice_split_at (λ b. b == 46) (decimal slot) 46 (decimal generation) (no_point _ (decimal_is_IsNumeral slot small).0.1) refl
    ∙ ap (λ r. decimal slot ∷ r) (slice_split_none (λ b. b == 46) (decimal generation) (no_point _ (decimal_is_IsNumeral generation below).0.1))

pub handle_from : (bs : List ℕ) (slot generation : ℕ) → parts_at 46 bs ≡ decimal slot ∷ decimal generation ∷ [] → bs ≡ handle_word slot generation
handle_from bs slot generation parts = sym (join_with_byte-slice_split 46 bs) ∙ ap (join_with_byte 46) parts
