use Rattle.intern_log.proofs.Stays.{seed_unchanged}
use Rattle.intern_log.proofs.stays_laws.seed_stays.Goals as goal

pub returns : goal.returns
returns c = record { law = λ now e other. seed_unchanged now e.seat e.what other }
