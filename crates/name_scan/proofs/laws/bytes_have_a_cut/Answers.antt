use Rattle.name_scan.proofs.Cuts.{pieces_cut}
use Rattle.name_scan.proofs.laws.bytes_have_a_cut.Goals as goal

pub returns : goal.returns
returns c = record { law = pieces_cut }
