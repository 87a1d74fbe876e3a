use Rattle.intern_log.proofs.NowLaws.{no_lock_of_log}
use Rattle.intern_log.proofs.now_laws.no_lock_of_now.Goals as goal

pub returns : goal.returns
returns c = record { law = no_lock_of_log }
