use Rattle.intern_log.proofs.Replacing.{resizing_of_log}
use Rattle.intern_log.proofs.now_laws.resizing_of_now.Goals as goal

pub returns : goal.returns
returns c = record { law = resizing_of_log }
