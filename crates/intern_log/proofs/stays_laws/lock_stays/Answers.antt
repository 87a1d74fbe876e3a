use Rattle.intern_log.proofs.Stays.{lock_unchanged}
use Rattle.intern_log.proofs.stays_laws.lock_stays.Goals as goal

pub returns : goal.returns
returns c = record { law = λ now e row bucket other. lock_unchanged now e.seat e.what row bucket other }
