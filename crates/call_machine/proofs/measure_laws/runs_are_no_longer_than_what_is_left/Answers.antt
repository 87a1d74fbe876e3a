use Rattle.call_machine.proofs.CallMeasure.{run_law}
use Rattle.call_machine.proofs.measure_laws.runs_are_no_longer_than_what_is_left.Goals as goal

pub returns : goal.returns
returns c = record { law = run_law }
