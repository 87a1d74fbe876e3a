use Rattle.cht_core.proofs.PartsResize.{sides_hold}
use Rattle.cht_core.proofs.resize_laws.walkers_keep_to_their_sides.Goals as goal

pub returns : goal.returns
returns c = record { law = sides_hold }
