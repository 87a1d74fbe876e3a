use Rattle.intern_log.proofs.Places.{live_is_not_missing}
use Rattle.intern_log.proofs.window_laws.live_texts_are_not_missing.Goals as goal

pub returns : goal.returns
returns c = record { law = live_is_not_missing }
