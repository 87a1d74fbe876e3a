use Rattle.call_machine.proofs.CleanFollows.{events_law}
use Rattle.call_machine.proofs.clean_laws.events_of_a_clean.Goals as goal

pub returns : goal.returns
returns c = record { law = events_law }
