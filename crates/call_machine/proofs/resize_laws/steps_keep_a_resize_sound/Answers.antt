use Rattle.call_machine.proofs.SoundResize.{got_soundly}
use Rattle.call_machine.proofs.resize_laws.steps_keep_a_resize_sound.Goals as goal

pub returns : goal.returns
returns c = record { law = got_soundly }
