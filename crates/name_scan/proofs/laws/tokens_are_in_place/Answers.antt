use Rattle.std.proofs.Common.{arith, inr}
use Rattle.name_scan.specs.Tokens.{tokens, pieces}
use Rattle.name_scan.proofs.Cuts.{pieces_cut}
use Rattle.name_scan.proofs.Standing.{in_place}
use Rattle.name_scan.proofs.laws.tokens_are_in_place.Goals as goal

pub returns : goal.returns
unfolding tokens
returns c = record { law = λ bs. in_place (pieces bs) bs 0 (omega arith) (inr (λ first. absurd (omega arith))) (pieces_cut bs) }
