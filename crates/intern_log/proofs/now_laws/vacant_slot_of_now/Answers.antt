use Rattle.intern_log.proofs.SlotPhases.{vacant_slot}
use Rattle.intern_log.proofs.now_laws.vacant_slot_of_now.Goals as goal

pub returns : goal.returns
returns c = record { law = vacant_slot }
