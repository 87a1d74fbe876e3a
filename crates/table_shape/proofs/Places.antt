-- Places and their indices: the fixed words, the sections, the rows and the slots stand one behind the other.
use Rattle.std.proofs.Common.{◌≡◌, ◌≤◌, ◌<◌, ◌+◌, ◌-◌, ◌*◌, ◌/◌, ◌%◌, ◌^◌, ⊎_elim, ℕ, zero, suc, refl, sym, ap, subst, ◌∙◌}
use Rattle.std.specs.Prelude.{Bool, true, false, ◌&&◌, ◌==◌, nat_le, nat_lt, if◌then◌else◌}
use native.Mathlib.Omega.{arith}
use Rattle.std.proofs.Math.Nat.{div-add-mod, mod-lt, div-lt_iff_lt-mul, mul_comm, mul-mod_right, mul-div_cancel_left}
use Rattle.std.proofs.lemmas.Nat.{same_from_place, mul-add-lt}
use Rattle.std.proofs.lemmas.Bool.{cases_lt, cases_order, false≢true, leb-true, ltb-true, eqb-true, lt-ltb, eq-eqb}
use Rattle.table_shape.specs.declared.shape.Shape.{Shape}
use Rattle.table_shape.specs.declared.place.Place.{Place}
use Rattle.table_shape.specs.declared.place.Place.TheVariants.{Draws, Counter, ResizeLock, Level, NewLevel, Section, Head, Claim, Link, Count, Meta, Text}
use Rattle.table_shape.specs.Shape.{heads_of, rows_of, heads_from, slots_from, slot_words, words_of}
use Rattle.table_shape.specs.Place.{IsInside, row_from, bucket_for, is_spread, is_for_seat, index_of}
use Rattle.table_shape.proofs.Rows.{row_within}

-- a place as its part of the table and its numbers there
data Spot : Type 0 where
  Fixed : ℕ → Spot
  Seat : ℕ → Spot
  InRow : ℕ → ℕ → Spot
  InSlot : ℕ → ℕ → Spot

abbrev spot_of : Place → Spot
spot_of Draws = Fixed 0
spot_of Counter = Fixed 1
spot_of ResizeLock = Fixed 2
spot_of Level = Fixed 3
spot_of NewLevel = Fixed 4
spot_of (Section seat) = Seat seat
spot_of (Head row bucket) = InRow row bucket
spot_of (Claim slot) = InSlot slot 0
spot_of (Link slot) = InSlot slot 1
spot_of (Count slot) = InSlot slot 2
spot_of (Meta slot) = InSlot slot 3
spot_of (Text slot at) = InSlot slot (suc (suc (suc (suc at))))

abbrev fixed_place : ℕ → Place
fixed_place zero = Draws
fixed_place (suc zero) = Counter
fixed_place (suc (suc zero)) = ResizeLock
fixed_place (suc (suc (suc zero))) = Level
fixed_place (suc (suc (suc (suc n)))) = NewLevel

abbrev slot_place : ℕ → ℕ → Place
slot_place slot zero = Claim slot
slot_place slot (suc zero) = Link slot
slot_place slot (suc (suc zero)) = Count slot
slot_place slot (suc (suc (suc zero))) = Meta slot
slot_place slot (suc (suc (suc (suc at)))) = Text slot at

abbrev place_of : Spot → Place
place_of (Fixed n) = fixed_place n
place_of (Seat seat) = Section seat
place_of (InRow row bucket) = Head row bucket
place_of (InSlot slot field) = slot_place slot field

place-spot : (place : Place) → place_of (spot_of place) ≡ place
place-spot Draws = refl
place-spot Counter = refl
place-spot ResizeLock = refl
place-spot Level = refl
place-spot NewLevel = refl
place-spot (Section seat) = refl
place-spot (Head row bucket) = refl
place-spot (Claim slot) = refl
place-spot (Link slot) = refl
place-spot (Count slot) = refl
place-spot (Meta slot) = refl
place-spot (Text slot at) = refl

abbrev IsSpot : Shape → Spot → Type 0
IsSpot shape (Fixed n) = n < 5
IsSpot shape (Seat seat) = seat < shape.seats
IsSpot shape (InRow row bucket) = (shape.min_level ≤ row) × (row ≤ shape.max_level) × (bucket < 2 ^ row)
IsSpot shape (InSlot slot field) = (slot < shape.slots) × (field < slot_words shape)

abbrev spot_index : Shape → Spot → ℕ
spot_index shape (Fixed n) = n
spot_index shape (Seat seat) = 5 + seat
spot_index shape (InRow row bucket) = row_from shape row + bucket
spot_index shape (InSlot slot field) = slots_from shape + (slot * slot_words shape + field)

-- where the greatest row is long enough, section words change places with some of its heads
abbrev section_spot : Shape → Bool → ℕ → Spot
section_spot shape true seat = InRow shape.max_level (bucket_for seat)
section_spot shape false seat = Seat seat

abbrev head_spot : Bool → ℕ → ℕ → Spot
head_spot true row bucket = Seat (bucket / 8 - 1)
head_spot false row bucket = InRow row bucket

abbrev swapped : Shape → Spot → Spot
swapped shape (Fixed n) = Fixed n
swapped shape (Seat seat) = section_spot shape (is_spread shape) seat
swapped shape (InRow row bucket) = head_spot (is_for_seat shape row bucket) row bucket
swapped shape (InSlot slot field) = InSlot slot field

both : (a b : Bool) → (a && b) ≡ true → (a ≡ true) × (b ≡ true)
both true b is = (refl, is)
both false b is = absurd (false≢true is)

-- a head that changes places is that for a seat
record IsFor (shape : Shape) (row bucket : ℕ) : Type 0 where
  spread : is_spread shape ≡ true
  row_is : row ≡ shape.max_level
  some : 1 ≤ bucket / 8
  seat : bucket / 8 - 1 < shape.seats
  whole : bucket_for (bucket / 8 - 1) ≡ bucket

is_for : (shape : Shape) (row bucket : ℕ) → is_for_seat shape row bucket ≡ true → IsFor shape row bucket
is_for shape row bucket is =
    let four = both _ (nat_lt bucket (bucket_for shape.seats)) is in
    let three = both _ (nat_lt 0 bucket) four.0 in
    let two = both _ (bucket % 8 == 0) three.0 in
    let one = both (is_spread shape) (row == shape.max_level) two.0 in
    let even = eqb-true (bucket % 8) 0 two.1 in
    let some = ltb-true 0 bucket three.1 in
    let few = ltb-true bucket (bucket_for shape.seats) four.1 in
    let parts = div-add-mod bucket 8 in
    record {
      spread = one.0;
      row_is = eqb-true row shape.max_level one.1;
      some = omega (arith, even, some, parts);
      seat = omega (arith, even, some, few, parts);
      whole = omega (arith, even, some, parts);
    }

all_true : (a b c d e : Bool) → a ≡ true → b ≡ true → c ≡ true → d ≡ true → e ≡ true → (a && b && c && d && e) ≡ true
all_true a b c d e is_a is_b is_c is_d is_e = rw (is_a, is_b, is_c, is_d, is_e) refl

for_seat : (shape : Shape) (seat : ℕ) → is_spread shape ≡ true → seat < shape.seats → is_for_seat shape shape.max_level (bucket_for seat) ≡ true
for_seat shape seat spread below = all_true (is_spread shape) (shape.max_level == shape.max_level) (bucket_for seat % 8 == 0) (nat_lt 0 (bucket_for seat)) (nat_lt (bucket_for seat) (bucket_for shape.seats))
    spread (eq-eqb shape.max_level shape.max_level refl) (eq-eqb (bucket_for seat % 8) 0 (mul-mod_right 8 (seat + 1))) (lt-ltb 0 (bucket_for seat) (omega arith)) (lt-ltb (bucket_for seat) (bucket_for shape.seats) (omega (arith, below)))

back_to_seat : (seat : ℕ) → bucket_for seat / 8 - 1 ≡ seat
back_to_seat seat = let some : 0 < 8 = omega arith in let back = mul-div_cancel_left (seat + 1) some in omega (arith, back)

index-head : (shape : Shape) (row bucket : ℕ) (b : Bool) → is_for_seat shape row bucket ≡ b → (if b then 4 + bucket / 8 else row_from shape row + bucket) ≡ spot_index shape (head_spot b row bucket)
index-head shape row bucket true is = let for = is_for shape row bucket is in omega (arith, for.some)
index-head shape row bucket false is = refl

index-section : (shape : Shape) (seat : ℕ) (b : Bool) → (if b then row_from shape shape.max_level + bucket_for seat else 5 + seat) ≡ spot_index shape (section_spot shape b seat)
index-section shape seat true = refl
index-section shape seat false = refl

index-spot : (shape : Shape) (place : Place) → index_of shape place ≡ spot_index shape (swapped shape (spot_of place))
index-spot shape Draws = refl
index-spot shape Counter = refl
index-spot shape ResizeLock = refl
index-spot shape Level = refl
index-spot shape NewLevel = refl
index-spot shape (Section seat) = index-section shape seat (is_spread shape)
index-spot shape (Head row bucket) = index-head shape row bucket (is_for_seat shape row bucket) refl
index-spot shape (Claim slot) = omega arith
index-spot shape (Link slot) = omega arith
index-spot shape (Count slot) = omega arith
index-spot shape (Meta slot) = omega arith
index-spot shape (Text slot at) = omega arith

inside-spot : (shape : Shape) (place : Place) → IsInside shape place → IsSpot shape (spot_of place)
inside-spot shape Draws inside = omega arith
inside-spot shape Counter inside = omega arith
inside-spot shape ResizeLock inside = omega arith
inside-spot shape Level inside = omega arith
inside-spot shape NewLevel inside = omega arith
inside-spot shape (Section seat) inside = inside
inside-spot shape (Head row bucket) inside = inside
inside-spot shape (Claim slot) inside = (inside, omega arith)
inside-spot shape (Link slot) inside = (inside, omega arith)
inside-spot shape (Count slot) inside = (inside, omega arith)
inside-spot shape (Meta slot) inside = (inside, omega arith)
inside-spot shape (Text slot at) inside = (inside.0, omega (arith, inside.1))

section_inside : (shape : Shape) (seat : ℕ) (b : Bool) → is_spread shape ≡ b → seat < shape.seats → IsSpot shape (section_spot shape b seat)
section_inside shape seat false is below = below
section_inside shape seat true is below =
    let parts = both (nat_le shape.min_level shape.max_level) _ is in
    let levels = leb-true shape.min_level shape.max_level parts.0 in
    let room = leb-true (bucket_for shape.seats) (2 ^ shape.max_level) parts.1 in
    (levels, omega arith, omega (arith, room, below))

head_inside : (shape : Shape) (row bucket : ℕ) (b : Bool) → is_for_seat shape row bucket ≡ b → IsSpot shape (InRow row bucket) → IsSpot shape (head_spot b row bucket)
head_inside shape row bucket false is inside = inside
head_inside shape row bucket true is inside = (is_for shape row bucket is).seat

swapped_inside : (shape : Shape) (spot : Spot) → IsSpot shape spot → IsSpot shape (swapped shape spot)
swapped_inside shape (Fixed n) inside = inside
swapped_inside shape (Seat seat) inside = section_inside shape seat (is_spread shape) refl inside
swapped_inside shape (InRow row bucket) inside = head_inside shape row bucket (is_for_seat shape row bucket) refl inside
swapped_inside shape (InSlot slot field) inside = inside

-- spots that change places twice are where they were
section_back : (shape : Shape) (seat : ℕ) (b : Bool) → is_spread shape ≡ b → seat < shape.seats → swapped shape (section_spot shape b seat) ≡ Seat seat
section_back shape seat false is below = ap (λ b. section_spot shape b seat) is
section_back shape seat true is below = ap (λ b. head_spot b shape.max_level (bucket_for seat)) (for_seat shape seat is below) ∙ ap Seat (back_to_seat seat)

head_back : (shape : Shape) (row bucket : ℕ) (b : Bool) → is_for_seat shape row bucket ≡ b → swapped shape (head_spot b row bucket) ≡ InRow row bucket
head_back shape row bucket false is = ap (λ b. head_spot b row bucket) is
head_back shape row bucket true is =
    let for = is_for shape row bucket is in
    ap (λ b. section_spot shape b (bucket / 8 - 1)) for.spread ∙ ap (InRow shape.max_level) for.whole ∙ ap (λ r. InRow r bucket) (sym for.row_is)

swapped_back : (shape : Shape) (spot : Spot) → IsSpot shape spot → swapped shape (swapped shape spot) ≡ spot
swapped_back shape (Fixed n) inside = refl
swapped_back shape (Seat seat) inside = section_back shape seat (is_spread shape) refl inside
swapped_back shape (InRow row bucket) inside = head_back shape row bucket (is_for_seat shape row bucket) refl
swapped_back shape (InSlot slot field) inside = refl

-- a bucket stands in its row, and a field in its slot
pub row_inside : (shape : Shape) (row bucket : ℕ) → shape.min_level ≤ row → row ≤ shape.max_level → bucket < 2 ^ row → row_from shape row + bucket < slots_from shape
row_inside shape row bucket from to within =
    let rest = row_within shape.min_level row (shape.max_level + 1) from (omega (arith, to)) in omega (arith, rest, within)

slot_inside : (shape : Shape) (slot field : ℕ) → slot < shape.slots → field < slot_words shape → slot * slot_words shape + field < shape.slots * slot_words shape
slot_inside shape slot field below within = let rest = mul-add-lt slot (slot_words shape) field shape.slots below within in omega (arith, rest)

index_inside : (shape : Shape) (spot : Spot) → IsSpot shape spot → spot_index shape spot < words_of shape
index_inside shape (Fixed n) is = omega (arith, is)
index_inside shape (Seat seat) is = omega (arith, is)
index_inside shape (InRow row bucket) is = let inside = row_inside shape row bucket is.0 is.1 is.2 in omega (arith, inside)
index_inside shape (InSlot slot field) is = let inside = slot_inside shape slot field is.0 is.1 in omega (arith, inside)

-- two buckets with one place
same_bucket : (shape : Shape) (row bucket other at : ℕ) → IsSpot shape (InRow row bucket) → IsSpot shape (InRow other at) → row_from shape row + bucket ≡ row_from shape other + at → InRow row bucket ≡ InRow other at
same_bucket shape row bucket other at a b same = ⊎_elim
    (λ is. let moved = ap (λ r. row_from shape r) is in let equal : bucket ≡ at = omega (arith, moved, same) in ap (λ r. InRow r bucket) is ∙ ap (InRow other) equal)
    (⊎_elim
    (λ less. let rest = row_within shape.min_level row other a.0 less in absurd (omega (arith, rest, same, a.2)))
    (λ more. let rest = row_within shape.min_level other row b.0 more in absurd (omega (arith, rest, same, b.2))))
    (cases_order row other)

same_spot : (shape : Shape) (a b : Spot) → IsSpot shape a → IsSpot shape b → spot_index shape a ≡ spot_index shape b → a ≡ b
same_spot shape (Fixed n) (Fixed m) a b same = ap Fixed same
same_spot shape (Fixed n) (Seat m) a b same = absurd (omega (arith, a, same))
same_spot shape (Fixed n) (InRow r m) a b same = absurd (omega (arith, a, same))
same_spot shape (Fixed n) (InSlot s m) a b same = absurd (omega (arith, a, same))
same_spot shape (Seat n) (Fixed m) a b same = absurd (omega (arith, b, same))
same_spot shape (Seat n) (Seat m) a b same = let equal : n ≡ m = omega (arith, same) in ap Seat equal
same_spot shape (Seat n) (InRow r m) a b same = absurd (omega (arith, a, same))
same_spot shape (Seat n) (InSlot s m) a b same = absurd (omega (arith, a, same))
same_spot shape (InRow r n) (Fixed m) a b same = absurd (omega (arith, b, same))
same_spot shape (InRow r n) (Seat m) a b same = absurd (omega (arith, b, same))
same_spot shape (InRow r n) (InRow q m) a b same = same_bucket shape r n q m a b same
same_spot shape (InRow r n) (InSlot s m) a b same = let inside = row_inside shape r n a.0 a.1 a.2 in absurd (omega (arith, inside, same))
same_spot shape (InSlot s n) (Fixed m) a b same = absurd (omega (arith, b, same))
same_spot shape (InSlot s n) (Seat m) a b same = absurd (omega (arith, b, same))
same_spot shape (InSlot s n) (InRow q m) a b same = let inside = row_inside shape q m b.0 b.1 b.2 in absurd (omega (arith, inside, same))
same_spot shape (InSlot s n) (InSlot t m) a b same =
    let equal = same_from_place s n t m (slot_words shape) a.1 b.1 (omega (arith, same)) in ap (λ x. InSlot x n) equal.0 ∙ ap (InSlot t) equal.1

same_swapped : (shape : Shape) (a b : Spot) → IsSpot shape a → IsSpot shape b → spot_index shape (swapped shape a) ≡ spot_index shape (swapped shape b) → a ≡ b
same_swapped shape a b in_a in_b same =
    sym (swapped_back shape a in_a) ∙ ap (swapped shape) (same_spot shape (swapped shape a) (swapped shape b) (swapped_inside shape a in_a) (swapped_inside shape b in_b) same) ∙ swapped_back shape b in_b

pub same_place : (shape : Shape) (a b : Place) → IsInside shape a → IsInside shape b → index_of shape a ≡ index_of shape b → a ≡ b
same_place shape a b in_a in_b same =
    sym (place-spot a) ∙ ap place_of (same_swapped shape (spot_of a) (spot_of b) (inside-spot shape a in_a) (inside-spot shape b in_b) (sym (index-spot shape a) ∙ same ∙ index-spot shape b)) ∙ place-spot b

pub index_within : (shape : Shape) (place : Place) → IsInside shape place → index_of shape place < words_of shape
index_within shape place inside =
    subst (λ n. n < words_of shape) (sym (index-spot shape place)) (index_inside shape (swapped shape (spot_of place)) (swapped_inside shape (spot_of place) (inside-spot shape place inside)))

-- a spot is that of a place
fixed-spot : (n : ℕ) → n < 5 → spot_of (fixed_place n) ≡ Fixed n
fixed-spot zero below = refl
fixed-spot (suc zero) below = refl
fixed-spot (suc (suc zero)) below = refl
fixed-spot (suc (suc (suc zero))) below = refl
fixed-spot (suc (suc (suc (suc zero)))) below = refl
fixed-spot (suc (suc (suc (suc (suc n))))) below = absurd (omega (arith, below))

slot-spot : (slot field : ℕ) → spot_of (slot_place slot field) ≡ InSlot slot field
slot-spot slot zero = refl
slot-spot slot (suc zero) = refl
slot-spot slot (suc (suc zero)) = refl
slot-spot slot (suc (suc (suc zero))) = refl
slot-spot slot (suc (suc (suc (suc at)))) = refl

spot-place : (shape : Shape) (spot : Spot) → IsSpot shape spot → spot_of (place_of spot) ≡ spot
spot-place shape (Fixed n) is = fixed-spot n is
spot-place shape (Seat seat) is = refl
spot-place shape (InRow row bucket) is = refl
spot-place shape (InSlot slot field) is = slot-spot slot field

fixed-inside : (shape : Shape) (n : ℕ) → IsInside shape (fixed_place n)
fixed-inside shape zero = tt
fixed-inside shape (suc zero) = tt
fixed-inside shape (suc (suc zero)) = tt
fixed-inside shape (suc (suc (suc zero))) = tt
fixed-inside shape (suc (suc (suc (suc n)))) = tt

slot-inside : (shape : Shape) (slot field : ℕ) → IsSpot shape (InSlot slot field) → IsInside shape (slot_place slot field)
slot-inside shape slot zero is = is.0
slot-inside shape slot (suc zero) is = is.0
slot-inside shape slot (suc (suc zero)) is = is.0
slot-inside shape slot (suc (suc (suc zero))) is = is.0
slot-inside shape slot (suc (suc (suc (suc at)))) is = (is.0, omega (arith, is.1))

place-inside : (shape : Shape) (spot : Spot) → IsSpot shape spot → IsInside shape (place_of spot)
place-inside shape (Fixed n) is = fixed-inside shape n
place-inside shape (Seat seat) is = is
place-inside shape (InRow row bucket) is = is
place-inside shape (InSlot slot field) is = slot-inside shape slot field is

-- the spot of an index
abbrev IsAt : Shape → ℕ → Spot → Type 0
IsAt shape index spot = IsSpot shape spot × (spot_index shape spot ≡ index)

-- the row and bucket of the n-th head of so many rows
row_at : (level rows n : ℕ) → n < heads_of level rows → (row : ℕ) × (bucket : ℕ) × (level ≤ row) × (row < level + rows) × (bucket < 2 ^ row) × (heads_of level (row - level) + bucket ≡ n)
row_at level zero n below = absurd (omega (arith, below))
row_at level (suc rows) n below = ⊎_elim
    (λ here. let zeroth : level - level ≡ 0 = omega arith in let none = ap (heads_of level) zeroth in (level, n, omega arith, omega arith, here, omega (arith, none)))
    (λ later. let rest = row_at (level + 1) rows (n - 2 ^ level) (omega (arith, below, later)) in
    let from = rest.2 in
    let to = rest.3 in
    let is = rest.5 in
    let back : rest.0 - level ≡ suc (rest.0 - (level + 1)) = omega (arith, from) in
    let heads = ap (heads_of level) back in
    (rest.0, rest.1, omega (arith, from), omega (arith, to), rest.4, omega (arith, heads, is, later)))
    (cases_lt n (2 ^ level))

slot_of_index : (shape : Shape) (n : ℕ) → n < shape.slots * slot_words shape → (spot : Spot) × IsAt shape (slots_from shape + n) spot
slot_of_index shape n below =
    let some : 0 < slot_words shape = omega arith in
    let slot = (div-lt_iff_lt-mul {x = n} {y = shape.slots} some).1 below in
    let field = mod-lt n some in
    let parts = div-add-mod n (slot_words shape) in
    let turned = mul_comm (slot_words shape) (n / slot_words shape) in
    let whole : n / slot_words shape * slot_words shape + n % slot_words shape ≡ n = sym (ap (λ x. x + n % slot_words shape) turned) ∙ parts in
    (InSlot (n / slot_words shape) (n % slot_words shape), ((slot, field), ap (λ m. slots_from shape + m) whole))

spot_at : (shape : Shape) (index : ℕ) → index < words_of shape → (spot : Spot) × IsAt shape index spot
spot_at shape index below = ⊎_elim (λ few. (Fixed index, (few, refl)))
    (λ five. ⊎_elim
    (λ seat. (Seat (index - 5), (omega (arith, seat, five), omega (arith, five))))
    (λ heads. ⊎_elim
    (λ row. let found = row_at shape.min_level (rows_of shape) (index - heads_from shape) (omega (arith, row, heads)) in
    let from = found.2 in
    let to = found.3 in
    let is = found.5 in
    (InRow found.0 found.1, ((from, omega (arith, to), found.4), omega (arith, is, heads))))
    (λ slots. let found = slot_of_index shape (index - slots_from shape) (omega (arith, below, slots)) in (found.0, (found.1.0, omega (arith, found.1.1, slots))))
    (cases_lt index (slots_from shape)))
    (cases_lt index (5 + shape.seats)))
    (cases_lt index 5)

abbrev IsPlaceAt : Shape → ℕ → Place → Type 0
IsPlaceAt shape index place = IsInside shape place × (index_of shape place ≡ index)

pub place_at : (shape : Shape) (index : ℕ) → index < words_of shape → (place : Place) × IsPlaceAt shape index place
place_at shape index below =
    let found = spot_at shape index below in
    let spot = swapped shape found.0 in
    let inside = swapped_inside shape found.0 found.1.0 in
    (place_of spot, (place-inside shape spot inside, index-spot shape (place_of spot) ∙ ap (λ s. spot_index shape (swapped shape s)) (spot-place shape spot inside) ∙ ap (spot_index shape) (swapped_back shape found.0 found.1.0) ∙ found.1.1))
