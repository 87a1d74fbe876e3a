use Rattle.section_core.proofs.Waiting.{opened_before}
use Rattle.section_core.proofs.word_laws.sections_opened_before_are_waited_for.Goals as goal

pub returns : goal.returns
returns c = record { law = opened_before }
