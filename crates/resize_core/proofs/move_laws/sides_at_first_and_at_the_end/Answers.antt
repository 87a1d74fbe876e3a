use Rattle.resize_core.proofs.Sides.{side_whole}
use Rattle.resize_core.proofs.Zips.{split_first}
use Rattle.resize_core.proofs.move_laws.sides_at_first_and_at_the_end.Goals as goal

pub returns : goal.returns
returns c = record { first = split_first; end = side_whole }
