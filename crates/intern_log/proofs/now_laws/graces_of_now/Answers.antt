use Rattle.intern_log.proofs.NowLaws.{graces_of_log}
use Rattle.intern_log.proofs.now_laws.graces_of_now.Goals as goal

pub returns : goal.returns
returns c = record { law = graces_of_log }
