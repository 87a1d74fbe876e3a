use Rattle.call_machine.proofs.WholeCall.{made_answered_law}
use Rattle.call_machine.proofs.call_laws.visible_events_of_an_answer.Goals as goal

pub returns : goal.returns
returns c = record { law = made_answered_law }
