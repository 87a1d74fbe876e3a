use Rattle.name_scan.proofs.TokensFrom.{tokens_from_first}
use Rattle.name_scan.proofs.laws.tokens_from_the_front_are_all.Goals as goal

pub returns : goal.returns
returns c = record { law = tokens_from_first }
