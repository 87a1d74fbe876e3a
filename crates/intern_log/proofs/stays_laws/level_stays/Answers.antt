use Rattle.intern_log.proofs.Stays.{level_unchanged}
use Rattle.intern_log.proofs.stays_laws.level_stays.Goals as goal

pub returns : goal.returns
returns c = record { law = λ now e other. level_unchanged now e.seat e.what other }
