use Rattle.call_machine.proofs.CallMeasure.{in_time_law}
use Rattle.call_machine.proofs.measure_laws.calls_answer_in_time.Goals as goal

pub returns : goal.returns
returns c = record { law = in_time_law }
