use Rattle.chain_core.proofs.Stores.{with_here, with_other, with_is}
use Rattle.chain_core.proofs.store_laws.a_store_changes_one_node.Goals as goal

pub returns : goal.returns
returns c = record { here = with_here; others = with_other; only = with_is }
