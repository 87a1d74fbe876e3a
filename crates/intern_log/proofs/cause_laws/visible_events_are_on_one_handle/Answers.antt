use Rattle.intern_log.proofs.CauseLaws.{one_handle}
use Rattle.intern_log.proofs.cause_laws.visible_events_are_on_one_handle.Goals as goal

pub returns : goal.returns
returns c = record { law = one_handle }
