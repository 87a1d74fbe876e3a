use Rattle.intern_log.proofs.NowLaws.{lock_of_log}
use Rattle.intern_log.proofs.now_laws.lock_of_now.Goals as goal

pub returns : goal.returns
returns c = record { law = lock_of_log }
