use Rattle.table_program.proofs.OneReplay.{no_fault_of_replay}
use Rattle.table_program.proofs.laws.replayed_bytes_have_no_fault.Goals as goal

pub returns : goal.returns
returns c = record { law = no_fault_of_replay }
