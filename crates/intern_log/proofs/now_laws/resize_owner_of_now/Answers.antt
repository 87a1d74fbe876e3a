use Rattle.intern_log.proofs.NowLaws.{owner_of_log}
use Rattle.intern_log.proofs.now_laws.resize_owner_of_now.Goals as goal

pub returns : goal.returns
returns c = record { law = owner_of_log }
