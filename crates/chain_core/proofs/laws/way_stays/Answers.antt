use Rattle.chain_core.proofs.Members.{Contains-from_On}
use Rattle.chain_core.proofs.Ways.{leads_stays}
use Rattle.chain_core.proofs.laws.way_stays.Goals as goal

pub returns : goal.returns
returns c = record { law = λ next new changed other first to met absent way. leads_stays next new changed other first to met (λ on. absent (Contains-from_On met changed on)) way }
