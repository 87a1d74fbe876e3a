use Rattle.section_core.proofs.Waiting.{passed_stays}
use Rattle.section_core.proofs.word_laws.passed_seats_stay_passed.Goals as goal

pub returns : goal.returns
returns c = record { law = passed_stays }
