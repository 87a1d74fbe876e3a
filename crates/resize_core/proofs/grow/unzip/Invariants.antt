use Rattle.std.proofs.Common.{◌≡◌, ◌++◌, drop}
use Rattle.chain_core.specs.Path.{next_in}
use Rattle.resize_core.specs.declared.moves.Place.TheVariants.{EvenHead, OddHead}
use Rattle.resize_core.specs.Unzip.{marked_odd, moves_of}
use Rattle.resize_core.proofs.grow.unzip.Given as goal

-- the moves so far, and those of the nodes that are left, are those of all nodes
abbrev pub invariant-loop-node : goal.invariant-loop-node
invariant-loop-node l =
    l.moves.items ++ moves_of (next_in l.next) (marked_odd l.odd) l.ends.even l.ends.odd (drop l.node-index l.node-items) ≡ moves_of (next_in l.next) (marked_odd l.odd) EvenHead OddHead l.node-items
