use Rattle.intern_log.proofs.Stays.{owner_unchanged}
use Rattle.intern_log.proofs.stays_laws.resize_owner_stays.Goals as goal

pub returns : goal.returns
returns c = record { law = λ now e other. owner_unchanged now e.seat e.what other }
