use Rattle.call_machine.proofs.WholeClean.{ends_law, ends_end}
use Rattle.call_machine.proofs.clean_laws.a_clean_gives_the_resize_lock_back_at_its_end_alone.Goals as goal

pub returns : goal.returns
returns c = record { run = ends_law; end = ends_end }
