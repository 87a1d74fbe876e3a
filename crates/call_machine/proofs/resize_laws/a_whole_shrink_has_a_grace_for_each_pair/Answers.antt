use Rattle.call_machine.proofs.ResizeEnds.{shrink_graces_law}
use Rattle.call_machine.proofs.resize_laws.a_whole_shrink_has_a_grace_for_each_pair.Goals as goal

pub returns : goal.returns
returns c = record { law = shrink_graces_law }
