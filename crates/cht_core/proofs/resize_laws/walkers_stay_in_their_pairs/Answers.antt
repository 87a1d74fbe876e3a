use Rattle.cht_core.proofs.PartsResize.{in_pairs_hold}
use Rattle.cht_core.proofs.resize_laws.walkers_stay_in_their_pairs.Goals as goal

pub returns : goal.returns
returns c = record { law = in_pairs_hold }
