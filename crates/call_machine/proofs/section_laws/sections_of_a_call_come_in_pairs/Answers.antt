use Rattle.call_machine.proofs.WholeCall.{sections_law}
use Rattle.call_machine.proofs.section_laws.sections_of_a_call_come_in_pairs.Goals as goal

pub returns : goal.returns
returns c = record { law = sections_law }
