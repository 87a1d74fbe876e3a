use Rattle.resize_core.specs.declared.moves.Place.TheVariants.{EvenHead, OddHead}
use Rattle.resize_core.proofs.Zips.{move_of_node, length-moves_of}
use Rattle.resize_core.proofs.move_laws.each_node_has_its_move.Goals as goal

pub returns : goal.returns
returns c = record { law = move_of_node; length = λ next is_odd nodes. length-moves_of next is_odd EvenHead OddHead nodes }
