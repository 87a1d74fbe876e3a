use Rattle.table_shape.proofs.Places.{place_at}
use Rattle.table_shape.proofs.laws.each_index_is_of_a_place.Goals as goal

pub returns : goal.returns
returns c = record { law = λ shape index below. let found = place_at shape index below in (found.0, found.1.0, found.1.1) }
