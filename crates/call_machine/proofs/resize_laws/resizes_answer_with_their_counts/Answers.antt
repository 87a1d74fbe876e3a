use Rattle.call_machine.proofs.ResizeEnds.{told_law}
use Rattle.call_machine.proofs.resize_laws.resizes_answer_with_their_counts.Goals as goal

pub returns : goal.returns
returns c = record { law = told_law }
