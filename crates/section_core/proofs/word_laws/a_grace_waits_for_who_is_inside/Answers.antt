use Rattle.section_core.proofs.Waiting.{found_inside}
use Rattle.section_core.proofs.word_laws.a_grace_waits_for_who_is_inside.Goals as goal

pub returns : goal.returns
returns c = record { law = λ opened_by found each seat. found_inside found (opened_by seat) (each seat) }
