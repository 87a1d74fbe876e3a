use Rattle.call_machine.proofs.CallMeasure.{goes_on_law}
use Rattle.call_machine.proofs.measure_laws.calls_go_on_until_they_answer.Goals as goal

pub returns : goal.returns
returns c = record { law = goes_on_law }
