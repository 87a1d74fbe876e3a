use Rattle.call_machine.proofs.ResizeEnds.{grow_graces_law}
use Rattle.call_machine.proofs.resize_laws.a_whole_grow_has_a_grace_for_each_move.Goals as goal

pub returns : goal.returns
returns c = record { law = grow_graces_law }
