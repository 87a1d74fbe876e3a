use Rattle.table_program.proofs.OneReplay.{one_script_fault}
use Rattle.table_program.proofs.laws.bytes_are_at_fault_at_one_line.Goals as goal

pub returns : goal.returns
returns c = record { law = one_script_fault }
