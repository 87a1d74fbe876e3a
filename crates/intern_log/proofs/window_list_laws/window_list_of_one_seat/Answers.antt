use Rattle.intern_log.proofs.WindowHolds.{window_list-by_seat}
use Rattle.intern_log.proofs.window_list_laws.window_list_of_one_seat.Goals as goal

pub returns : goal.returns
returns c = record { law = window_list-by_seat }
