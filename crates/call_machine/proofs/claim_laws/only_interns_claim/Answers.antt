use Rattle.call_machine.proofs.CallClaims.{only_interns_law}
use Rattle.call_machine.proofs.claim_laws.only_interns_claim.Goals as goal

pub returns : goal.returns
returns c = record { law = only_interns_law }
