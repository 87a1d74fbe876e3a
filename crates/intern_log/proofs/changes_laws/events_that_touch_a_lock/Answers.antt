use Rattle.intern_log.proofs.Changed.{touched_lock}
use Rattle.intern_log.proofs.changes_laws.events_that_touch_a_lock.Goals as goal

pub returns : goal.returns
returns c = record { law = touched_lock }
