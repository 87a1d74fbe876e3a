use Rattle.cht_core.proofs.Consequences.{taken_slots_known}
use Rattle.cht_core.proofs.part_laws.each_taken_slot_is_known.Goals as goal

pub returns : goal.returns
returns c = record { law = taken_slots_known }
