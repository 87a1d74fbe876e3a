use Rattle.intern_log.proofs.Stays.{since_unchanged}
use Rattle.intern_log.proofs.stays_laws.since_stays.Goals as goal

pub returns : goal.returns
returns c = record { law = λ now e other. since_unchanged now e.seat e.what other }
