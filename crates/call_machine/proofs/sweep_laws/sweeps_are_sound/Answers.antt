use Rattle.call_machine.proofs.SoundSweep.{begins_sweep, sweep_law}
use Rattle.call_machine.proofs.sweep_laws.sweeps_are_sound.Goals as goal

pub returns : goal.returns
returns c = record { begin = begins_sweep; step = sweep_law }
