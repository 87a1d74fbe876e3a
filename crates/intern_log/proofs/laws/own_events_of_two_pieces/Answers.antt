use Rattle.intern_log.proofs.Logs.{mine-append}
use Rattle.intern_log.proofs.laws.own_events_of_two_pieces.Goals as goal

pub returns : goal.returns
returns c = record { law = λ front rest numbers. mine-append front rest numbers }
