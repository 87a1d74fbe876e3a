use Rattle.intern_log.proofs.WindowHolds.{whats_of-one_more}
use Rattle.intern_log.proofs.window_list_laws.whats_by_one_more_event.Goals as goal

pub returns : goal.returns
returns c = record { law = whats_of-one_more }
