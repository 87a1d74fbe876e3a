use Rattle.call_machine.proofs.CleanGraces.{graces_law}
use Rattle.call_machine.proofs.clean_laws.graces_of_a_clean_are_at_most_its_unlinks.Goals as goal

pub returns : goal.returns
returns c = record { law = graces_law }
