use Rattle.name_scan.specs.Tokens.{tokens, pieces}
use Rattle.name_scan.proofs.Standing.{in_order}
use Rattle.name_scan.proofs.laws.tokens_are_in_order.Goals as goal

pub returns : goal.returns
unfolding tokens
returns c = record { law = λ bs. in_order (pieces bs) 0 }
