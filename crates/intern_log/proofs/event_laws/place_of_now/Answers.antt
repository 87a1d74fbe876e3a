use Rattle.intern_log.proofs.OneMore.{place_is}
use Rattle.intern_log.proofs.event_laws.place_of_now.Goals as goal

pub returns : goal.returns
returns c = record { law = place_is }
