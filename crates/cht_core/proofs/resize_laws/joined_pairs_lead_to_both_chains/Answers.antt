use Rattle.cht_core.proofs.PartsResize.{pairs_hold}
use Rattle.cht_core.proofs.resize_laws.joined_pairs_lead_to_both_chains.Goals as goal

pub returns : goal.returns
returns c = record { law = pairs_hold }
