-- The word of an edge, and its place.
use Rattle.std.proofs.Common.{◌≡◌, ℕ, ◌<◌, ◌≤◌, ◌^◌, Option, Some, None, arith}
use Rattle.marked_word.specs.Link.{link_word}
use Rattle.table_shape.specs.declared.shape.Shape.{Shape}
use Rattle.table_shape.specs.declared.place.Place.TheVariants as place
use Rattle.atomic_step.specs.declared.step.Edge.{Edge}
use Rattle.atomic_step.specs.declared.step.Edge.TheVariants as edge
use Rattle.atomic_step.specs.SoundStep.{IsNode}
use Rattle.atomic_step.specs.Step.{edge_place, edge_word}

-- the word of an edge to a node of the table is small
small_link : (shape : Shape) (next : Option ℕ) → IsNode shape next → link_word next ≤ shape.slots
small_link shape None node = omega arith
small_link shape (Some s) node = omega (arith, node)

pub small_edge : (shape : Shape) (from : Edge) (next : Option ℕ) → shape.slots < 4294967295 → IsNode shape next → edge_word from next < 2 ^ 64
small_edge shape (edge.Head r b) next few node = let small = small_link shape next node in omega (arith, few, small)
small_edge shape (edge.Link last) next few node = let small = small_link shape next node in omega (arith, few, small)

-- its place is not that of the counter
pub not_counter : (from : Edge) → place.Counter ≡ edge_place from → ⊥
not_counter (edge.Head r b) same = cc
not_counter (edge.Link last) same = cc
