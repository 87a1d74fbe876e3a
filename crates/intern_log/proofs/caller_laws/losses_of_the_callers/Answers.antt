use Rattle.intern_log.proofs.CallerSums.{shared_losses}
use Rattle.intern_log.proofs.caller_laws.losses_of_the_callers.Goals as goal

pub returns : goal.returns
returns c = record { law = shared_losses }
