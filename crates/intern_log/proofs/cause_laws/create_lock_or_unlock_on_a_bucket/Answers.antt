use Rattle.intern_log.proofs.CauseLaws.{by_create_lock_or_unlock}
use Rattle.intern_log.proofs.cause_laws.create_lock_or_unlock_on_a_bucket.Goals as goal

pub returns : goal.returns
returns c = record { law = by_create_lock_or_unlock }
