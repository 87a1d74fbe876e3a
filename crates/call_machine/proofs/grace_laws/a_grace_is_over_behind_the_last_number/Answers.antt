use Rattle.call_machine.proofs.GraceLaws.{over_law}
use Rattle.call_machine.proofs.grace_laws.a_grace_is_over_behind_the_last_number.Goals as goal

pub returns : goal.returns
returns c = record { law = over_law }
