use Rattle.intern_log.proofs.SlotPhases.{claimed_slot}
use Rattle.intern_log.proofs.now_laws.claimed_slot_of_now.Goals as goal

pub returns : goal.returns
returns c = record { law = claimed_slot }
