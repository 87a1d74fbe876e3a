use Rattle.table_shape.proofs.Places.{index_within}
use Rattle.table_shape.proofs.laws.indices_are_inside.Goals as goal

pub returns : goal.returns
returns c = record { law = index_within }
