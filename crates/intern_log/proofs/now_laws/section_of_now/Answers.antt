use Rattle.intern_log.proofs.NowLaws.{section_of_log}
use Rattle.intern_log.proofs.now_laws.section_of_now.Goals as goal

pub returns : goal.returns
returns c = record { law = section_of_log }
