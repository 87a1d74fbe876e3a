use Rattle.chain_core.proofs.Faults.{no_path_fault}
use Rattle.chain_core.proofs.laws.path_has_no_fault.Goals as goal

pub returns : goal.returns
returns c = record { law = no_path_fault }
