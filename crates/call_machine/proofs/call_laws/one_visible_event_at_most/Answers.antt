use Rattle.call_machine.proofs.WholeCall.{made_one_law}
use Rattle.call_machine.proofs.call_laws.one_visible_event_at_most.Goals as goal

pub returns : goal.returns
returns c = record { law = made_one_law }
