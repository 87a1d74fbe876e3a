use Rattle.call_machine.proofs.CallClaims.{uses_up_law}
use Rattle.call_machine.proofs.claim_laws.claims_use_up_what_may_be_claimed.Goals as goal

pub returns : goal.returns
returns c = record { law = uses_up_law }
