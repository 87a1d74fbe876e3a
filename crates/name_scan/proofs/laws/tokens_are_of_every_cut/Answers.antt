use Rattle.name_scan.proofs.Cuts.{tokens_of_cut}
use Rattle.name_scan.proofs.laws.tokens_are_of_every_cut.Goals as goal

pub returns : goal.returns
returns c = record { law = tokens_of_cut }
