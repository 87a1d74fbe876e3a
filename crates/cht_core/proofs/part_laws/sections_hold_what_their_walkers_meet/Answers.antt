use Rattle.cht_core.proofs.PartsHold.{sections_hold, opens_hold, walkers_stand, walkers_led}
use Rattle.cht_core.proofs.part_laws.sections_hold_what_their_walkers_meet.Goals as goal

pub returns-clause-counter : goal.returns-clause-counter
returns-clause-counter c = sections_hold

pub returns-clause-opened : goal.returns-clause-opened
returns-clause-opened c = opens_hold

pub returns-clause-node : goal.returns-clause-node
returns-clause-node c = walkers_stand

pub returns-clause-ahead : goal.returns-clause-ahead
returns-clause-ahead c = walkers_led
