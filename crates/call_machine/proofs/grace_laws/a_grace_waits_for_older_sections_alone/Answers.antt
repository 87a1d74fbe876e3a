use Rattle.call_machine.proofs.GraceLaws.{waits_law}
use Rattle.call_machine.proofs.grace_laws.a_grace_waits_for_older_sections_alone.Goals as goal

pub returns : goal.returns
returns c = record { law = waits_law }
