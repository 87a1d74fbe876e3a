use Rattle.intern_log.proofs.Stays.{slot_unchanged}
use Rattle.intern_log.proofs.stays_laws.slot_stays.Goals as goal

pub returns : goal.returns
returns c = record { law = λ now e s other. slot_unchanged now e.seat e.what s other }
