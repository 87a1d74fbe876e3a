use Rattle.call_machine.proofs.CallClaims.{claims_once_law}
use Rattle.call_machine.proofs.claim_laws.calls_claim_once.Goals as goal

pub returns : goal.returns
returns c = record { law = claims_once_law }
