use Rattle.call_machine.proofs.FullPasses.{few_law}
use Rattle.call_machine.proofs.clean_laws.full_passes_of_a_poll_are_few.Goals as goal

pub returns : goal.returns
returns c = record { law = few_law }
