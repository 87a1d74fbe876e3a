use Rattle.cht_core.proofs.PartsResize.{moves_hold}
use Rattle.cht_core.proofs.resize_laws.moves_are_those_of_unzipping.Goals as goal

pub returns : goal.returns
returns c = record { law = moves_hold }
