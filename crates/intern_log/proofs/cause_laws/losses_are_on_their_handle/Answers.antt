use Rattle.intern_log.proofs.CauseLaws.{loss_is_on}
use Rattle.intern_log.proofs.cause_laws.losses_are_on_their_handle.Goals as goal

pub returns : goal.returns
returns c = record { law = loss_is_on }
