use Rattle.intern_log.proofs.Stays.{resizing_unchanged}
use Rattle.intern_log.proofs.stays_laws.resizing_stays.Goals as goal

pub returns : goal.returns
returns c = record { law = λ now e other. resizing_unchanged now e.seat e.what other }
