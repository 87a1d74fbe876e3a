use Rattle.call_machine.proofs.SoundClean.{begins_clean, clean_law}
use Rattle.call_machine.proofs.clean_laws.cleans_are_sound.Goals as goal

pub returns : goal.returns
returns c = record { begin = begins_clean; step = clean_law }
