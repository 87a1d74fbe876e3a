use Rattle.intern_log.proofs.OneMore.{IsShort-prefix}
use Rattle.intern_log.proofs.event_laws.prefix_of_a_short_log.Goals as goal

pub returns : goal.returns
returns c = record { law = IsShort-prefix }
