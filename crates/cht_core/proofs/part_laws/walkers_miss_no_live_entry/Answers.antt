use Rattle.cht_core.proofs.PartsHold.{walks_routed, walkers_hold}
use Rattle.cht_core.proofs.part_laws.walkers_miss_no_live_entry.Goals as goal

pub returns-clause-bucket : goal.returns-clause-bucket
returns-clause-bucket c = walks_routed

pub returns-clause-ahead : goal.returns-clause-ahead
returns-clause-ahead c = walkers_hold
