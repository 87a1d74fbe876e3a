use Rattle.intern_log.proofs.Stays.{graces_unchanged}
use Rattle.intern_log.proofs.stays_laws.graces_stay.Goals as goal

pub returns : goal.returns
returns c = record { law = λ now e other. graces_unchanged now e.seat e.what other }
