use Rattle.intern_log.proofs.CauseLaws.{gain_is_on}
use Rattle.intern_log.proofs.cause_laws.gains_are_on_their_handle.Goals as goal

pub returns : goal.returns
returns c = record { law = gain_is_on }
