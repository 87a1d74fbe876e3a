use Rattle.call_machine.proofs.GraceLaws.{goes_law}
use Rattle.call_machine.proofs.grace_laws.passed_numbers_are_closed_or_newer.Goals as goal

pub returns : goal.returns
returns c = record { law = goes_law }
