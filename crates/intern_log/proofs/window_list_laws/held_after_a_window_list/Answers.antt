use Rattle.intern_log.proofs.WindowHolds.{held_after}
use Rattle.intern_log.proofs.window_list_laws.held_after_a_window_list.Goals as goal

pub returns : goal.returns
returns c = record { law = held_after }
