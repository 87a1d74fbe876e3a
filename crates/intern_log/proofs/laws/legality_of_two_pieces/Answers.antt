use Rattle.intern_log.proofs.Logs.{IsLegal-pieces}
use Rattle.intern_log.proofs.laws.legality_of_two_pieces.Goals as goal

pub returns : goal.returns
returns c = record { law = λ front rest. IsLegal-pieces front rest }
