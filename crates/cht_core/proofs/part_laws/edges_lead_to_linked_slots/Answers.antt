use Rattle.cht_core.proofs.PartsHold.{edges_hold, unlinked_edges_hold, unlinked_edges_later}
use Rattle.cht_core.proofs.part_laws.edges_lead_to_linked_slots.Goals as goal

pub returns-clause-law : goal.returns-clause-law
returns-clause-law c = edges_hold

pub returns-clause-unlinked : goal.returns-clause-unlinked
returns-clause-unlinked c = unlinked_edges_hold

pub returns-clause-later : goal.returns-clause-later
returns-clause-later c = unlinked_edges_later
