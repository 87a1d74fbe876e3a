use Rattle.intern_log.proofs.Logs.{map_after-append}
use Rattle.intern_log.proofs.laws.map_of_two_pieces.Goals as goal

pub returns : goal.returns
returns c = record { law = λ front rest. map_after-append _ front rest }
