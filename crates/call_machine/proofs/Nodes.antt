-- Nodes of a table: a link leads to one, and there are fewer than a count of them holds.
use Rattle.std.proofs.Common.{◌<◌, ◌≤◌, ◌+◌, ◌*◌, ℕ, zero, suc}
use native.Mathlib.Omega.{arith}
use Rattle.marked_word.specs.Link.{node_of}
use Rattle.table_shape.specs.declared.shape.Shape.{Shape}
use Rattle.table_shape.specs.Shape.{IsSound}
use Rattle.atomic_step.specs.SoundStep.{IsNode}

-- the node of a link or of a head
pub node_below : (shape : Shape) (word : ℕ) → word ≤ shape.slots → IsNode shape (node_of word)
node_below shape zero small = tt
node_below shape (suc x) small = omega (arith, small)

-- a table has fewer slots than a count of passed nodes holds
few_times : (n t : ℕ) → n ≤ n * (4 + t)
few_times n t = grind arith

pub few_slots : (shape : Shape) → IsSound shape → shape.slots < 4294967295
few_slots shape table = let words = table.small in let less = few_times shape.slots shape.text_words in omega (arith, words, less)
