-- The words of a table by their places, and an atomic step on them.
use Rattle.std.specs.Prelude.{◌≡◌, ◌≢◌, ℕ, ◌&&◌, nat_le, nat_lt, ◌^◌, Bool, true, if◌then◌else◌, List, Option}
use Rattle.marked_word.specs.Link.{node_of}
use Rattle.table_shape.specs.declared.shape.Shape.{Shape}
use Rattle.table_shape.specs.declared.place.Place.{Place}
use Rattle.table_shape.specs.declared.place.Place.TheVariants as place
use Rattle.atomic_step.specs.declared.step.Step.{Step}
use Rattle.atomic_step.specs.Access.{word_after}
use Rattle.atomic_step.specs.Step.{access_of}
use Rattle.atomic_step.specs.Table.{word_at}

-- the word at each place
abbrev pub Memory : Type 0
Memory = Place → ℕ

-- the word that a step finds
abbrev pub found : Step → Memory → ℕ
found s m = m (access_of s).place

-- the step was made: the word of its place is changed by its deed, and no other word is
pub record IsMade (s : Step) (m m' : Memory) : Type 0 where
  pub here : m' (access_of s).place ≡ word_after (access_of s).deed (found s m)
  pub there : (p : Place) → p ≢ (access_of s).place → m' p ≡ m p

-- the next node of each node
abbrev pub links : Memory → ℕ → Option ℕ
links m s = node_of (m (place.Link s))

-- whether a table of the shape has the word
abbrev pub is_inside : Shape → Place → Bool
is_inside shape (place.Section number) = nat_lt number shape.seats
is_inside shape (place.Head row bucket) = nat_le shape.min_level row && nat_le row shape.max_level && nat_lt bucket (2 ^ row)
is_inside shape (place.Claim slot) = nat_lt slot shape.slots
is_inside shape (place.Link slot) = nat_lt slot shape.slots
is_inside shape (place.Count slot) = nat_lt slot shape.slots
is_inside shape (place.Meta slot) = nat_lt slot shape.slots
is_inside shape (place.Text slot at) = nat_lt slot shape.slots && nat_lt at shape.text_words
is_inside shape _ = true

-- the words of a list by their places; a place that the table does not have has 0
abbrev pub memory_of : Shape → List ℕ → Memory
memory_of shape words p = if is_inside shape p then word_at shape p words else 0
