use Rattle.atomic_step.proofs.Found.{found}
use Rattle.atomic_step.proofs.found_laws.steps_find_words.Goals as goal

pub returns : goal.returns
returns c = record { law = found }
