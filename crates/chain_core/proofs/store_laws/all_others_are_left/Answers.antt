use Rattle.chain_core.proofs.Stores.{contains_without}
use Rattle.chain_core.proofs.store_laws.all_others_are_left.Goals as goal

pub returns : goal.returns
returns c = record { law = contains_without }
