use Rattle.table_program.proofs.OneReplay.{one_text}
use Rattle.table_program.proofs.laws.bytes_print_one_text.Goals as goal

pub returns : goal.returns
returns c = record { law = one_text }
