-- Where each word of a table stands.
use Rattle.std.specs.Prelude.{ℕ, ◌+◌, ◌-◌, ◌*◌, ◌/◌, ◌%◌, ◌^◌, ◌==◌, ◌<◌, ◌≤◌, ◌&&◌, Bool, nat_lt, nat_le, if◌then◌else◌}
use Rattle.table_shape.specs.declared.shape.Shape.{Shape}
use Rattle.table_shape.specs.declared.place.Place.{Place}
use Rattle.table_shape.specs.declared.place.Place.TheVariants.{Draws, Counter, ResizeLock, Level, NewLevel, Section, Head, Claim, Link, Count, Meta, Text}
use Rattle.table_shape.specs.Shape.{heads_of, heads_from, slots_from, slot_words}

-- a table of the shape has this word
abbrev pub IsInside : Shape → Place → Type 0
IsInside shape (Section seat) = seat < shape.seats
IsInside shape (Head row bucket) = (shape.min_level ≤ row) × (row ≤ shape.max_level) × (bucket < 2 ^ row)
IsInside shape (Claim slot) = slot < shape.slots
IsInside shape (Link slot) = slot < shape.slots
IsInside shape (Count slot) = slot < shape.slots
IsInside shape (Meta slot) = slot < shape.slots
IsInside shape (Text slot at) = (slot < shape.slots) × (at < shape.text_words)
IsInside shape _ = Unit {0}

-- where the row of a level begins, and where a slot does
abbrev pub row_from : Shape → ℕ → ℕ
row_from shape row = heads_from shape + heads_of shape.min_level (row - shape.min_level)

abbrev pub slot_from : Shape → ℕ → ℕ
slot_from shape slot = slots_from shape + slot * slot_words shape

-- A section word is written by the thread of its seat alone, and is to have a cache line without another one. So where the greatest row is long
-- enough, one of each eight of its heads changes places with the section word of a seat: this one with that of the seat.
abbrev pub bucket_for : ℕ → ℕ
bucket_for seat = 8 * (seat + 1)

abbrev pub is_spread : Shape → Bool
is_spread shape = nat_le shape.min_level shape.max_level && nat_le (bucket_for shape.seats) (2 ^ shape.max_level)

abbrev pub is_for_seat : Shape → ℕ → ℕ → Bool
is_for_seat shape row bucket = is_spread shape && (row == shape.max_level) && (bucket % 8 == 0) && nat_lt 0 bucket && nat_lt bucket (bucket_for shape.seats)

abbrev pub section_at : Shape → ℕ → ℕ
section_at shape seat = if is_spread shape then row_from shape shape.max_level + bucket_for seat else 5 + seat

abbrev pub head_at : Shape → ℕ → ℕ → ℕ
head_at shape row bucket = if is_for_seat shape row bucket then 4 + bucket / 8 else row_from shape row + bucket

-- the index of a word
abbrev pub index_of : Shape → Place → ℕ
index_of shape Draws = 0
index_of shape Counter = 1
index_of shape ResizeLock = 2
index_of shape Level = 3
index_of shape NewLevel = 4
index_of shape (Section seat) = section_at shape seat
index_of shape (Head row bucket) = head_at shape row bucket
index_of shape (Claim slot) = slot_from shape slot
index_of shape (Link slot) = slot_from shape slot + 1
index_of shape (Count slot) = slot_from shape slot + 2
index_of shape (Meta slot) = slot_from shape slot + 3
index_of shape (Text slot at) = slot_from shape slot + 4 + at
