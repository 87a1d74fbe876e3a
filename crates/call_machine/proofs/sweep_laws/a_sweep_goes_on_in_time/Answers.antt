use Rattle.call_machine.proofs.SweepMeasure.{lowers_law, most_law}
use Rattle.call_machine.proofs.sweep_laws.a_sweep_goes_on_in_time.Goals as goal

pub returns : goal.returns
returns c = record { step = lowers_law; run = most_law }
