use Rattle.intern_log.proofs.GrownLogLaws.{grown_is_lawful}
use Rattle.intern_log.proofs.grown_log.grown_log_is_lawful.Goals as goal

pub returns : goal.returns
returns c = record { law = grown_is_lawful }
