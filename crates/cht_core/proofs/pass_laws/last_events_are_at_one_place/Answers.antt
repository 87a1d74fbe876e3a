use Rattle.cht_core.proofs.LastEvents.{one_last}
use Rattle.cht_core.proofs.pass_laws.last_events_are_at_one_place.Goals as goal

pub returns : goal.returns
returns c = record { one = one_last }
