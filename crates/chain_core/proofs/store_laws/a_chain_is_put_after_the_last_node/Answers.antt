use Rattle.chain_core.proofs.Stores.{path_joined}
use Rattle.chain_core.proofs.store_laws.a_chain_is_put_after_the_last_node.Goals as goal

pub returns : goal.returns
returns c = record { law = path_joined }
