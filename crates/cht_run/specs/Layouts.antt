-- Where a word of a table stands.
use Rattle.std.specs.Prelude.{◌≡◌, ℕ}
use Rattle.table_shape.specs.declared.shape.Shape.{Shape}
use Rattle.table_shape.specs.declared.place.Place.{Place}
use Rattle.table_shape.specs.Place.{IsInside, index_of}
use Rattle.atomic_step.specs.declared.access.Deed.{Deed}
use Rattle.atomic_step.specs.declared.step.Step.{Step}
use Rattle.atomic_step.specs.Step.{access_of}

-- the index is that of the word, where the table has the word
abbrev pub StandsAt : Shape → Place → ℕ → Type 0
StandsAt shape place index = IsInside shape place → index ≡ index_of shape place

-- the step does this to the word of this index
abbrev pub Does : Shape → Step → ℕ → Deed → Type 0
Does shape s index deed = StandsAt shape (access_of s).place index × ((access_of s).deed ≡ deed)
