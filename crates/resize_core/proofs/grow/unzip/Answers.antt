use Rattle.std.proofs.Common.{◌≡◌, All, length, arith, ap, sym, subst, ◌∙◌}
use Rattle.std.proofs.lemmas.Grind.{common_steps}
use Rattle.chain_core.specs.Path.{next_in}
use Rattle.resize_core.specs.declared.moves.Move.{Move}
use Rattle.resize_core.specs.declared.moves.Place.TheVariants.{EvenHead, OddHead}
use Rattle.resize_core.specs.Moves.{IsPlaceIn}
use Rattle.resize_core.specs.Unzip.{marked_odd, moves_of}
use Rattle.resize_core.proofs.Zips.{unzipped, moves_in}
use Rattle.resize_core.proofs.grow.unzip.Goals as goal
use Rattle.resize_core.proofs.grow.unzip.Goals.{After-drop-nodes-2}

-- the moves at the end of the loop are those of all nodes
all_moves : (c : After-drop-nodes-2) → c.loop-node.moves.items ≡ moves_of (next_in c.args.next.now) (marked_odd c.args.odd.now) EvenHead OddHead c.in_ok-nodes.nodes.items
all_moves c = grind (arith, common_steps)

pub returns-clause-paths : goal.returns-clause-paths
returns-clause-paths c nodes k is =
    let same = c.in_ok-nodes.ensures.found nodes is in
    unzipped c.args.next.now c.args.first (marked_odd c.args.odd.now) nodes c.loop-node.moves.items k is
    (all_moves c ∙ ap (moves_of (next_in c.args.next.now) (marked_odd c.args.odd.now) EvenHead OddHead) same)

pub returns-clause-inside : goal.returns-clause-inside
returns-clause-inside c =
    subst (All (λ (step : Move). IsPlaceIn (length c.args.next.now) step.place)) (sym (all_moves c))
    (moves_in (length c.args.next.now) (next_in c.args.next.now) (marked_odd c.args.odd.now) c.in_ok-nodes.nodes.items EvenHead OddHead tt tt c.in_ok-nodes.ensures.path.inside)
