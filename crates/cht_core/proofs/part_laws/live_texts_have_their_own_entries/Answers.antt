use Rattle.cht_core.proofs.Consequences.{live_handles_differ, live_slots_differ, texts_have_one_entry}
use Rattle.cht_core.proofs.part_laws.live_texts_have_their_own_entries.Goals as goal

pub returns-clause-handle : goal.returns-clause-handle
returns-clause-handle c = live_handles_differ

pub returns-clause-slot : goal.returns-clause-slot
returns-clause-slot c = live_slots_differ

pub returns-clause-entry : goal.returns-clause-entry
returns-clause-entry c = texts_have_one_entry
