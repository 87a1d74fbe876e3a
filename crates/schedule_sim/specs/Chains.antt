-- The chains of a table, as its words have them.
use Rattle.std.specs.Prelude.{◌≡◌, ℕ, List, map, Option}
use Rattle.chain_core.specs.Path.{IsPath}
use Rattle.marked_word.specs.Head.{first_of}
use Rattle.marked_word.specs.Link.{node_of}
use Rattle.table_shape.specs.declared.shape.Shape.{Shape}
use Rattle.table_shape.specs.declared.place.Place.TheVariants as place
use Rattle.table_shape.specs.Place.{IsInside}
use Rattle.atomic_step.specs.Table.{word_at}
use Rattle.cht_core.specs.Anew.{text_at}

-- the row is the present level, and the table has the bucket in it
abbrev pub IsPresent : Shape → List ℕ → ℕ → ℕ → Type 0
IsPresent shape words row bucket = (word_at shape place.Level words ≡ row) × IsInside shape (place.Head row bucket)

-- the next node of each node, and the first one of a bucket
abbrev pub next_at : Shape → List ℕ → ℕ → Option ℕ
next_at shape words slot = node_of (word_at shape (place.Link slot) words)

abbrev pub first_at : Shape → List ℕ → ℕ → ℕ → Option ℕ
first_at shape words row bucket = first_of (word_at shape (place.Head row bucket) words)

-- the texts of the nodes that the chain of a bucket meets, in order
abbrev pub IsChain : Shape → List ℕ → ℕ → ℕ → List (List ℕ) → Type 0
IsChain shape words row bucket texts =
    (nodes : List ℕ) × IsPath (next_at shape words) (first_at shape words row bucket) nodes × (texts ≡ map (text_at shape words) nodes)
