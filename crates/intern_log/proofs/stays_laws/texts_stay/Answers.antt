use Rattle.intern_log.proofs.Stays.{next_unchanged}
use Rattle.intern_log.proofs.stays_laws.texts_stay.Goals as goal

pub returns : goal.returns
returns c = record { law = λ now e unseen. next_unchanged now.texts e.what unseen }
