use Rattle.table_shape.proofs.Rows.{heads_to}
use Rattle.table_shape.proofs.laws.heads_are_a_difference.Goals as goal

pub returns : goal.returns
returns c = record { law = heads_to }
