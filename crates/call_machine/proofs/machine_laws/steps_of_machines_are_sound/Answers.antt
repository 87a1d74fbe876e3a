use Rattle.call_machine.proofs.Machines.{step_law}
use Rattle.call_machine.proofs.machine_laws.steps_of_machines_are_sound.Goals as goal

-- src/machine_laws.rt:18:1
pub returns : goal.returns
returns c = record { law = step_law }
