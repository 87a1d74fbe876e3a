use Rattle.cht_core.proofs.PartsHold.{passed_hold}
use Rattle.cht_core.proofs.part_laws.calls_pass_no_more_nodes_than_there_are_slots.Goals as goal

pub returns : goal.returns
returns c = record { law = passed_hold }
