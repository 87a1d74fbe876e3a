use Rattle.call_machine.proofs.ResizeMeasure.{polls_law, polls_end_law}
use Rattle.call_machine.proofs.resize_laws.polls_of_resizes_answer_in_time.Goals as goal

pub returns : goal.returns
returns c = record { falls = polls_law; most = polls_end_law }
