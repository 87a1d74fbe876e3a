use Rattle.intern_log.proofs.CauseLaws.{by_create_unlink_or_lock}
use Rattle.intern_log.proofs.cause_laws.create_unlink_or_lock_on_a_bucket.Goals as goal

pub returns : goal.returns
returns c = record { law = by_create_unlink_or_lock }
