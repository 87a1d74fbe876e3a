use Rattle.intern_log.proofs.WindowHolds.{stay_after}
use Rattle.intern_log.proofs.window_list_laws.names_held_after_a_window_list.Goals as goal

pub returns : goal.returns
returns c = record { law = stay_after }
