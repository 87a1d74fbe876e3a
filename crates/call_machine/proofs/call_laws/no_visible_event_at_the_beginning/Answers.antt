use Rattle.call_machine.proofs.WholeCall.{made_begins_law}
use Rattle.call_machine.proofs.call_laws.no_visible_event_at_the_beginning.Goals as goal

pub returns : goal.returns
returns c = record { law = made_begins_law }
