use Rattle.call_machine.proofs.CallMeasure.{passed_law}
use Rattle.call_machine.proofs.measure_laws.nodes_are_passed_by_their_links.Goals as goal

pub returns : goal.returns
returns c = record { law = passed_law }
