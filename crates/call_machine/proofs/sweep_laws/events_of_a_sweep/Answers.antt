use Rattle.call_machine.proofs.SweepFollows.{events_law}
use Rattle.call_machine.proofs.sweep_laws.events_of_a_sweep.Goals as goal

pub returns : goal.returns
returns c = record { law = events_law }
