use Rattle.intern_log.proofs.WindowHolds.{whats_of-by_seat}
use Rattle.intern_log.proofs.window_list_laws.whats_of_one_seat.Goals as goal

pub returns : goal.returns
returns c = record { law = whats_of-by_seat }
