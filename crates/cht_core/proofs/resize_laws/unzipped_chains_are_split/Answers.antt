use Rattle.cht_core.proofs.PartsResize.{unzipped_hold}
use Rattle.cht_core.proofs.resize_laws.unzipped_chains_are_split.Goals as goal

pub returns : goal.returns
returns c = record { law = unzipped_hold }
