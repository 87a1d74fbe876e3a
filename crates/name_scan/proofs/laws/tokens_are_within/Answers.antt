use Rattle.name_scan.specs.Tokens.{tokens, pieces}
use Rattle.std.proofs.Common.{arith}
use Rattle.name_scan.proofs.Cuts.{pieces_cut}
use Rattle.name_scan.proofs.Standing.{within_bytes}
use Rattle.name_scan.proofs.laws.tokens_are_within.Goals as goal

pub returns : goal.returns
unfolding tokens
returns c = record { law = λ bs. within_bytes (pieces bs) bs 0 (omega arith) (pieces_cut bs) }
