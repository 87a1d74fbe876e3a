use Rattle.intern_log.proofs.CallerHolds.{held_is_live_throughout}
use Rattle.intern_log.proofs.caller_laws.texts_held_throughout_are_live.Goals as goal

pub returns : goal.returns
returns c = record { law = held_is_live_throughout }
