use Rattle.chain_core.proofs.Ways.{leads_on}
use Rattle.chain_core.proofs.laws.way_goes_on.Goals as goal

pub returns : goal.returns
returns c = record { law = λ next first middle to met rest way after. leads_on next first middle to met rest way after }
