use Rattle.table_shape.proofs.Places.{same_place}
use Rattle.table_shape.proofs.laws.places_with_one_index_are_equal.Goals as goal

pub returns : goal.returns
returns c = record { law = same_place }
