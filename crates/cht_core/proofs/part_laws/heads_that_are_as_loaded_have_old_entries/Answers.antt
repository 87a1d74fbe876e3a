use Rattle.cht_core.proofs.PartsHold.{first_nodes_hold, inserted_absent}
use Rattle.cht_core.proofs.part_laws.heads_that_are_as_loaded_have_old_entries.Goals as goal

pub returns-clause-old : goal.returns-clause-old
returns-clause-old c = first_nodes_hold

pub returns-clause-absent : goal.returns-clause-absent
returns-clause-absent c = inserted_absent
