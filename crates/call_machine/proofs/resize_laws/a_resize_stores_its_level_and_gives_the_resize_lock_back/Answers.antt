use Rattle.call_machine.proofs.ResizeEnds.{endings_law}
use Rattle.call_machine.proofs.resize_laws.a_resize_stores_its_level_and_gives_the_resize_lock_back.Goals as goal

pub returns : goal.returns
returns c = record { law = endings_law }
