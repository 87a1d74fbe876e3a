use Rattle.call_machine.proofs.WholeClean.{locks_law, locks_end}
use Rattle.call_machine.proofs.clean_laws.locks_of_a_clean_come_in_pairs.Goals as goal

pub returns : goal.returns
returns c = record { run = locks_law; end = locks_end }
