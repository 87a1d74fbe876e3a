use Rattle.intern_log.proofs.NowLaws.{no_section_of_log}
use Rattle.intern_log.proofs.now_laws.no_section_of_now.Goals as goal

pub returns : goal.returns
returns c = record { law = no_section_of_log }
