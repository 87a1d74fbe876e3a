use Rattle.intern_log.proofs.FirstFaults.{fault_is_not_allowed}
use Rattle.intern_log.proofs.fault_laws.first_fault_is_not_allowed.Goals as goal

pub returns : goal.returns
returns c = record { law = fault_is_not_allowed }
