use Rattle.call_machine.proofs.WholeCall.{begins_law}
use Rattle.call_machine.proofs.call_laws.calls_begin_sound.Goals as goal

pub returns : goal.returns
returns c = record { law = begins_law }
