use Rattle.intern_log.proofs.Stays.{section_unchanged}
use Rattle.intern_log.proofs.stays_laws.section_stays.Goals as goal

pub returns : goal.returns
returns c = record { law = λ now e k other. section_unchanged now e.seat e.what k other }
