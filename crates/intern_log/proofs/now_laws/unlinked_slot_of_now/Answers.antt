use Rattle.intern_log.proofs.SlotPhases.{unlinked_slot}
use Rattle.intern_log.proofs.now_laws.unlinked_slot_of_now.Goals as goal

pub returns : goal.returns
returns c = record { law = unlinked_slot }
