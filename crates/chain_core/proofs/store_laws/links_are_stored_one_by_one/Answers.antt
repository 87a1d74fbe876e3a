use Rattle.chain_core.proofs.Links.{next_in-set}
use Rattle.chain_core.proofs.store_laws.links_are_stored_one_by_one.Goals as goal

pub returns : goal.returns
returns c = record { law = next_in-set }
