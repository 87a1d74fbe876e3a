use Rattle.cht_core.proofs.PollPasses.{on_poll_begun, on_poll_after}
use Rattle.cht_core.proofs.poll_laws.full_passes_of_a_poll_stay_few.Goals as goal

pub returns-clause-begins : goal.returns-clause-begins
returns-clause-begins c = on_poll_begun

pub returns-clause-goes_on : goal.returns-clause-goes_on
returns-clause-goes_on c = on_poll_after
