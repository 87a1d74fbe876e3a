use Rattle.intern_log.proofs.WindowHolds.{whats_of-append}
use Rattle.intern_log.proofs.window_list_laws.whats_of_two_pieces.Goals as goal

pub returns : goal.returns
returns c = record { law = whats_of-append }
