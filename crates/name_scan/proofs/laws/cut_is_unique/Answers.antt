use Rattle.name_scan.proofs.Cuts.{same_cut}
use Rattle.name_scan.proofs.laws.cut_is_unique.Goals as goal

pub returns : goal.returns
returns c = record { law = same_cut }
