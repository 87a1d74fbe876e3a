use Rattle.chain_core.proofs.Stores.{way_elsewhere}
use Rattle.chain_core.proofs.store_laws.a_store_elsewhere_leaves_a_way.Goals as goal

pub returns : goal.returns
returns c = record { law = way_elsewhere }
