use Rattle.intern_log.proofs.RehashedLogLaws.{rehashed_is_lawful}
use Rattle.intern_log.proofs.rehashed_log.rehashed_log_is_lawful.Goals as goal

pub returns : goal.returns
returns c = record { law = rehashed_is_lawful }
