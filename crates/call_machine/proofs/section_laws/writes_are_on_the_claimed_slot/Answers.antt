use Rattle.call_machine.proofs.CallEvents.{write_law}
use Rattle.call_machine.proofs.section_laws.writes_are_on_the_claimed_slot.Goals as goal

pub returns : goal.returns
returns c = record { law = write_law }
