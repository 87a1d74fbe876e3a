use Rattle.cht_core.proofs.PartsHold.{visits_hold}
use Rattle.cht_core.proofs.part_laws.walkers_visit_no_node_twice.Goals as goal

pub returns : goal.returns
returns c = record { law = visits_hold }
