use Rattle.call_machine.proofs.WholeClean.{counts_law, counts_end, told_law}
use Rattle.call_machine.proofs.clean_laws.a_clean_answers_with_what_it_counted.Goals as goal

pub returns : goal.returns
returns c = record { run = counts_law; end = counts_end; answer = told_law }
