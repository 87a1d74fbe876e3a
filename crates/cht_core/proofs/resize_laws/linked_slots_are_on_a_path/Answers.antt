use Rattle.cht_core.proofs.PartsResize.{linked_hold}
use Rattle.cht_core.proofs.resize_laws.linked_slots_are_on_a_path.Goals as goal

pub returns : goal.returns
returns c = record { law = linked_hold }
