use Rattle.call_machine.proofs.WorkRuns.{cleans_law}
use Rattle.call_machine.proofs.work_laws.cleans_are_polled_as_works.Goals as goal

pub returns : goal.returns
returns c = record { law = cleans_law }
