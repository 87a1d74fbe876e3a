use Rattle.intern_log.proofs.SlotPhases.{linked_slot}
use Rattle.intern_log.proofs.now_laws.linked_slot_of_now.Goals as goal

pub returns : goal.returns
returns c = record { law = linked_slot }
