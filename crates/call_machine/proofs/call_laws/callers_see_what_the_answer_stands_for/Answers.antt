use Rattle.call_machine.proofs.WholeCall.{shows_law}
use Rattle.call_machine.proofs.call_laws.callers_see_what_the_answer_stands_for.Goals as goal

pub returns : goal.returns
returns c = record { law = shows_law }
