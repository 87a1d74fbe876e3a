-- Openings that write the same parts are the same.
use Rattle.std.proofs.Common.{◌≡◌, ℕ, ◌+◌, ◌*◌, ◌<◌, ◌≤◌, ◌^◌, List, [], ◌∷◌, ◌∙◌, ap, arith}
use Rattle.std.specs.Prelude.{decimal}
use Rattle.std.proofs.lemmas.Fmt.{decimal_injective}
use Rattle.table_shape.specs.declared.shape.Shape.{Shape}
use Rattle.table_shape.specs.Shape.{IsSound, slots_from, slot_words}
use Rattle.cht_core.specs.State.{IsFirstCounter}
use Rattle.schedule_sim.specs.Fit.{IsFit}
use Rattle.schedule_sim.specs.Script.{shape_parts, IsSmall}
use Rattle.schedule_sim.proofs.Forms.{head_of, tail_of}

-- a product with a number that is not 0 is no less
no_less : (a b : ℕ) → 1 ≤ b → a ≤ a * b
no_less a b some = grind arith

-- a table has few slots
pub few_slots : (shape : Shape) → IsSound shape → shape.slots < 2 ^ 32
few_slots shape sound =
    let words : slots_from shape + shape.slots * slot_words shape ≤ 2 ^ 27 = sound.small in
    let product : shape.slots ≤ shape.slots * slot_words shape = no_less shape.slots (slot_words shape) (omega arith) in
    omega arith

pub fit_small : (shape : Shape) → IsFit shape → IsSmall shape
fit_small shape fit =
    let text = fit.sound.text.1 in
    let least = fit.sound.levels.0 in
    let most = fit.sound.levels.1 in
    let seats = fit.seats in
    record { slots = few_slots shape fit.sound; text_words = omega arith; min_level = omega arith; max_level = omega arith; seats = omega arith }

pub same_number : (a b : ℕ) (p q : List (List ℕ)) → a < 2 ^ 64 → b < 2 ^ 64 → decimal a ∷ p ≡ decimal b ∷ q → a ≡ b
same_number a b p q small below is = decimal_injective a b small below (head_of _ _ p q is)

pub same_shape : (s t : Shape) (p q : List (List ℕ)) → IsSmall s → IsSmall t → shape_parts s p ≡ shape_parts t q → (s ≡ t) × (p ≡ q)
same_shape s t p q small below is =
    let two = tail_of _ _ _ _ is in
    let three = tail_of _ _ _ _ two in
    let four = tail_of _ _ _ _ three in
    let five = tail_of _ _ _ _ four in
    let a : s.slots ≡ t.slots = same_number _ _ _ _ (omega (arith, small.slots)) (omega (arith, below.slots)) is in
    let b : s.text_words ≡ t.text_words = same_number _ _ _ _ (omega (arith, small.text_words)) (omega (arith, below.text_words)) two in
    let d : s.min_level ≡ t.min_level = same_number _ _ _ _ (omega (arith, small.min_level)) (omega (arith, below.min_level)) three in
    let e : s.max_level ≡ t.max_level = same_number _ _ _ _ (omega (arith, small.max_level)) (omega (arith, below.max_level)) four in
    let f : s.seats ≡ t.seats = same_number _ _ _ _ (omega (arith, small.seats)) (omega (arith, below.seats)) five in
    let same : s ≡ t =
    ap (λ n. record { slots = n; text_words = s.text_words; min_level = s.min_level; max_level = s.max_level; seats = s.seats }) a
    ∙ ap (λ n. record { slots = t.slots; text_words = n; min_level = s.min_level; max_level = s.max_level; seats = s.seats }) b
    ∙ ap (λ n. record { slots = t.slots; text_words = t.text_words; min_level = n; max_level = s.max_level; seats = s.seats }) d
    ∙ ap (λ n. record { slots = t.slots; text_words = t.text_words; min_level = t.min_level; max_level = n; seats = s.seats }) e
    ∙ ap (λ n. record { slots = t.slots; text_words = t.text_words; min_level = t.min_level; max_level = t.max_level; seats = n }) f in
    (same, tail_of _ _ _ _ five)

pub same_counter : (a b : ℕ) → a < 2 ^ 64 → IsFirstCounter b → decimal a ∷ [] ≡ decimal b ∷ [] → a ≡ b
same_counter a b small begins is = same_number a b [] [] small (omega (arith, begins.1)) is
