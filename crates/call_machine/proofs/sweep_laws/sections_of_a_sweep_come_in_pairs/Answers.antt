use Rattle.call_machine.proofs.WholeSweep.{sections_law, sections_end}
use Rattle.call_machine.proofs.sweep_laws.sections_of_a_sweep_come_in_pairs.Goals as goal

pub returns : goal.returns
returns c = record { run = sections_law; end = sections_end }
