use Rattle.call_machine.proofs.WholeCall.{sound_step_law}
use Rattle.call_machine.proofs.call_laws.steps_of_calls_are_sound.Goals as goal

pub returns : goal.returns
returns c = record { law = sound_step_law }
