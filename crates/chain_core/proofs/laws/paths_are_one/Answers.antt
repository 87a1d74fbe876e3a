use Rattle.chain_core.proofs.Ways.{path_one}
use Rattle.chain_core.proofs.laws.paths_are_one.Goals as goal

pub returns : goal.returns
returns c = record { law = λ next first a b one other. path_one next first b a other one }
