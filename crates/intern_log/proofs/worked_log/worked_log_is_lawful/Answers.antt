use Rattle.intern_log.proofs.WorkedLogLaws.{worked_is_lawful}
use Rattle.intern_log.proofs.worked_log.worked_log_is_lawful.Goals as goal

pub returns : goal.returns
returns c = record { law = worked_is_lawful }
