use Rattle.chain_core.proofs.Members.{AllPairs-from_Once}
use Rattle.chain_core.proofs.Ways.{path_once}
use Rattle.chain_core.proofs.laws.nodes_of_a_path_differ.Goals as goal

pub returns : goal.returns
returns c = record { law = λ next first nodes path. AllPairs-from_Once nodes (path_once next first nodes path) }
