use Rattle.call_machine.proofs.CleanMeasure.{lowers_law, in_time_law, on_poll_law, most_law}
use Rattle.call_machine.proofs.clean_laws.a_poll_of_a_clean_answers_in_time.Goals as goal

pub returns : goal.returns
returns c = record { polls = on_poll_law; step = lowers_law; run = in_time_law; most = most_law }
