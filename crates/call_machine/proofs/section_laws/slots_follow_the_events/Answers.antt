use Rattle.call_machine.proofs.CallEvents.{slot_law}
use Rattle.call_machine.proofs.WholeCall.{begins_free, none_at_end}
use Rattle.call_machine.proofs.section_laws.slots_follow_the_events.Goals as goal

pub returns : goal.returns
returns c = record { begin = begins_free; answer = none_at_end; step = slot_law }
