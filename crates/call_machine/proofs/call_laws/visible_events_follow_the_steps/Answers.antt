use Rattle.call_machine.proofs.CallEvents.{made_law}
use Rattle.call_machine.proofs.call_laws.visible_events_follow_the_steps.Goals as goal

pub returns : goal.returns
returns c = record { law = made_law }
