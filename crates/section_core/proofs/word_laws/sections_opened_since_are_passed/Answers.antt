use Rattle.section_core.proofs.Waiting.{opened_since}
use Rattle.section_core.proofs.word_laws.sections_opened_since_are_passed.Goals as goal

pub returns : goal.returns
returns c = record { law = opened_since }
