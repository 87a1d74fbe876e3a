use Rattle.intern_log.proofs.Replacing.{since_is}
use Rattle.intern_log.proofs.resize_laws.since_the_last_level.Goals as goal

pub returns : goal.returns
returns c = record { law = since_is }
