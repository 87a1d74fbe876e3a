use Rattle.call_machine.proofs.CallMeasure.{fewer_law}
use Rattle.call_machine.proofs.measure_laws.steps_lower_what_is_left.Goals as goal

pub returns : goal.returns
returns c = record { law = fewer_law }
