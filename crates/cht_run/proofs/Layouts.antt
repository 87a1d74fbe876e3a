-- Where the words of a table stand, by the numbers of its layout.
use Rattle.std.proofs.Common.{◌≡◌, ℕ, ◌+◌, ◌-◌, ◌*◌, ◌%◌, ◌^◌, ◌<◌, ◌≤◌, true, cond, ap, sym, ◌∙◌}
use Rattle.std.specs.Prelude.{◌&&◌, nat_le}
use native.Mathlib.Omega.{arith}
use Rattle.std.proofs.lemmas.Bool.{le-leb}
use Rattle.table_shape.specs.declared.shape.Shape.{Shape}
use Rattle.table_shape.specs.declared.place.Place.TheVariants as place
use Rattle.table_shape.specs.Shape.{IsSound, heads_from}
use Rattle.table_shape.specs.Place.{IsInside, bucket_for, is_spread, row_from, section_at}
use Rattle.table_shape.proofs.Places.{index_within, row_inside}
use Rattle.table_shape.proofs.Rows.{row_grows, heads_between}

-- the word of a section among the heads
pub section_is : (shape : Shape) (from seat : ℕ) → IsSound shape → from ≡ row_from shape shape.max_level → is_spread shape ≡ true → seat < shape.seats → ((from + 8) % 4294967296 + seat * 8 % 4294967296) % 4294967296 ≡ section_at shape seat
section_is shape from seat sound is_from spread inside =
    let within = index_within shape (place.Section seat) inside in
    let at : section_at shape seat ≡ row_from shape shape.max_level + bucket_for seat = ap (λ b. cond b (row_from shape shape.max_level + bucket_for seat) (5 + seat)) spread in
    omega (arith, within, at, is_from, sound.small)

-- the word of a head in its row
pub row_is : (shape : Shape) (from least long row bucket : ℕ) → IsSound shape → from ≡ heads_from shape → least ≡ 2 ^ shape.min_level → (row ≤ 20 → long ≡ 2 ^ row) → IsInside shape (place.Head row bucket) →
    (((from + (4294967296 - least)) % 4294967296 + long) % 4294967296 + bucket) % 4294967296 ≡ row_from shape row + bucket
row_is shape from least long row bucket sound is_from is_least is_long inside =
    let levels = sound.levels in
    let is = is_long (omega (arith, inside.1, levels.1)) in
    let grows = row_grows shape.min_level row inside.0 in
    let low = row_grows shape.min_level 20 (omega (arith, levels.0, levels.1)) in
    let between = heads_between shape.min_level row inside.0 in
    let within = row_inside shape row bucket inside.0 inside.1 inside.2 in
    omega (arith, is, grows, low, between, within, is_from, is_least, sound.small, sound.seats.1)

-- the greatest row is long enough for section words
pub spread_is : (shape : Shape) (row : ℕ) → IsSound shape → row ≡ 2 ^ shape.max_level → nat_le (8 * (shape.seats + 1)) row ≡ is_spread shape
spread_is shape row sound is =
    ap (λ n. nat_le (8 * (shape.seats + 1)) n) is ∙ sym (ap (λ b. b && nat_le (bucket_for shape.seats) (2 ^ shape.max_level)) (le-leb shape.min_level shape.max_level sound.levels.0))
