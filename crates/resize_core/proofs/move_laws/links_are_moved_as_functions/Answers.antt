use Rattle.resize_core.proofs.Places.{split_in-after, split_in-after_all}
use Rattle.resize_core.proofs.move_laws.links_are_moved_as_functions.Goals as goal

pub returns : goal.returns
returns c = record { one = split_in-after; all = λ links heads moves inside. split_in-after_all moves links heads inside }
