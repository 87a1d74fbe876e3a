use Rattle.chain_core.proofs.Stores.{head_past}
use Rattle.chain_core.proofs.store_laws.a_head_is_led_past_its_first_node.Goals as goal

pub returns : goal.returns
returns c = record { law = head_past }
