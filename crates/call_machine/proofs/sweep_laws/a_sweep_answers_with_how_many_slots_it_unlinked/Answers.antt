use Rattle.call_machine.proofs.WholeSweep.{unlinks_law, unlinks_end}
use Rattle.call_machine.proofs.sweep_laws.a_sweep_answers_with_how_many_slots_it_unlinked.Goals as goal

pub returns : goal.returns
returns c = record { run = unlinks_law; end = unlinks_end }
