use Rattle.call_machine.proofs.CallEvents.{section_law}
use Rattle.call_machine.proofs.WholeCall.{begins_outside, outside_at_end}
use Rattle.call_machine.proofs.section_laws.sections_follow_the_events.Goals as goal

pub returns : goal.returns
returns c = record { begin = begins_outside; answer = outside_at_end; step = section_law }
