use Rattle.intern_log.proofs.CallerSums.{shared_gains}
use Rattle.intern_log.proofs.caller_laws.gains_of_the_callers.Goals as goal

pub returns : goal.returns
returns c = record { law = shared_gains }
