use Rattle.call_machine.proofs.SoundCall.{sound_law}
use Rattle.call_machine.proofs.call_laws.got_keeps_a_call_sound.Goals as goal

pub returns : goal.returns
returns c = record { law = sound_law }
