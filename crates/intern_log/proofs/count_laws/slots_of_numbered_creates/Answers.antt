use Rattle.intern_log.proofs.NumberedLaws.{numbered_is}
use Rattle.intern_log.proofs.count_laws.slots_of_numbered_creates.Goals as goal

pub returns : goal.returns
returns c = record { law = numbered_is }
