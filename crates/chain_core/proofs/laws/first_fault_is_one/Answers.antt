use Rattle.chain_core.proofs.Faults.{fault_one}
use Rattle.chain_core.proofs.laws.first_fault_is_one.Goals as goal

pub returns : goal.returns
returns c = record { law = fault_one }
