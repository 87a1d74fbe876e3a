use Rattle.intern_log.proofs.CallerHolds.{created_text_is}
use Rattle.intern_log.proofs.caller_laws.text_of_a_live_handle.Goals as goal

pub returns : goal.returns
returns c = record { law = created_text_is }
