use Rattle.name_scan.proofs.TokenSizes.{length-tokens}
use Rattle.name_scan.proofs.laws.tokens_are_no_more_than_bytes.Goals as goal

pub returns : goal.returns
returns c = record { law = length-tokens }
