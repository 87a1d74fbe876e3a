use Rattle.chain_core.proofs.Ways.{path_after}
use Rattle.chain_core.proofs.laws.way_begins_the_path.Goals as goal

pub returns : goal.returns
returns c = record { law = λ next first to met nodes way path. path_after next first to met nodes way path }
