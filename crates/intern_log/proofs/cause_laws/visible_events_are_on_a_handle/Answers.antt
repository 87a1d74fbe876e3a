use Rattle.intern_log.proofs.CauseLaws.{visible_is_on}
use Rattle.intern_log.proofs.cause_laws.visible_events_are_on_a_handle.Goals as goal

pub returns : goal.returns
returns c = record { law = visible_is_on }
