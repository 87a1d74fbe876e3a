-- How many words a table of a shape has, and which numbers are a shape.
use Rattle.std.specs.Prelude.{◌≡◌, ℕ, ◌+◌, ◌-◌, ◌*◌, ◌^◌, ◌<◌, ◌≤◌, zero, suc}
use Rattle.table_shape.specs.declared.shape.Shape.{Shape}
use Rattle.table_shape.specs.declared.shape.ShapeFault.{ShapeFault}
use Rattle.table_shape.specs.declared.shape.ShapeFault.TheVariants.{NoSlots, NoText, BadLevels, BadSeats, TooLarge}

-- how many heads so many rows have together, from the row of a level on
abbrev pub heads_of : ℕ → ℕ → ℕ
heads_of level zero = 0
heads_of level (suc rows) = 2 ^ level + heads_of (level + 1) rows

-- how many rows there are
abbrev pub rows_of : Shape → ℕ
rows_of shape = shape.max_level + 1 - shape.min_level

-- the words of a slot: its claim, link, count and meta, and those of its text
abbrev pub slot_words : Shape → ℕ
slot_words shape = 4 + shape.text_words

-- where the heads begin, and where the slots do
abbrev pub heads_from : Shape → ℕ
heads_from shape = 5 + shape.seats

abbrev pub slots_from : Shape → ℕ
slots_from shape = heads_from shape + heads_of shape.min_level (rows_of shape)

-- the number of words
abbrev pub words_of : Shape → ℕ
words_of shape = slots_from shape + shape.slots * slot_words shape

-- what is asked of each number of a shape
abbrev pub HasText : Shape → Type 0
HasText shape = (1 ≤ shape.text_words) × (shape.text_words ≤ 8192)

abbrev pub HasLevels : Shape → Type 0
HasLevels shape = (shape.min_level ≤ shape.max_level) × (shape.max_level ≤ 20)

abbrev pub HasSeats : Shape → Type 0
HasSeats shape = (1 ≤ shape.seats) × (shape.seats ≤ 256)

-- the numbers are the shape of a table
pub record IsSound (shape : Shape) : Type 0 where
  pub slots : 1 ≤ shape.slots
  pub text : HasText shape
  pub levels : HasLevels shape
  pub seats : HasSeats shape
  pub small : words_of shape ≤ 2 ^ 27

-- the fault is the first one of these numbers
abbrev pub IsFaultOf : Shape → ShapeFault → Type 0
IsFaultOf shape NoSlots = shape.slots ≡ 0
IsFaultOf shape NoText = (1 ≤ shape.slots) × ¬ (HasText shape)
IsFaultOf shape BadLevels = (1 ≤ shape.slots) × HasText shape × ¬ (HasLevels shape)
IsFaultOf shape BadSeats = (1 ≤ shape.slots) × HasText shape × HasLevels shape × ¬ (HasSeats shape)
IsFaultOf shape (TooLarge words) = (1 ≤ shape.slots) × HasText shape × HasLevels shape × HasSeats shape × (words ≡ words_of shape) × (2 ^ 27 < words)
