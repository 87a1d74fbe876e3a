use Rattle.call_machine.proofs.ResizeLocks.{heads_law}
use Rattle.call_machine.proofs.resize_laws.heads_locked_by_a_resize.Goals as goal

pub returns : goal.returns
returns c = record { law = heads_law }
