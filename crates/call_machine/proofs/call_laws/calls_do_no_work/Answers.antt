use Rattle.call_machine.proofs.CallEvents.{no_work_law}
use Rattle.call_machine.proofs.call_laws.calls_do_no_work.Goals as goal

pub returns : goal.returns
returns c = record { law = no_work_law }
