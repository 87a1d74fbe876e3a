use Rattle.intern_log.proofs.CauseLaws.{never_locked}
use Rattle.intern_log.proofs.cause_laws.no_lock_at_first.Goals as goal

pub returns : goal.returns
returns c = record { law = never_locked }
