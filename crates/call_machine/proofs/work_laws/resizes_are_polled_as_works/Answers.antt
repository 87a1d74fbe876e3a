use Rattle.call_machine.proofs.WorkRuns.{resizes_law}
use Rattle.call_machine.proofs.work_laws.resizes_are_polled_as_works.Goals as goal

pub returns : goal.returns
returns c = record { law = resizes_law }
