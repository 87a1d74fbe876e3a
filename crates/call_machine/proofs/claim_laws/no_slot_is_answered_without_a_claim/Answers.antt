use Rattle.call_machine.proofs.CallClaims.{no_slot_law}
use Rattle.call_machine.proofs.claim_laws.no_slot_is_answered_without_a_claim.Goals as goal

pub returns : goal.returns
returns c = record { law = no_slot_law }
