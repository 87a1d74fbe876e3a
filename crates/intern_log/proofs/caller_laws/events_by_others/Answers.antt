use Rattle.intern_log.proofs.Membership.{by_other}
use Rattle.intern_log.proofs.caller_laws.events_by_others.Goals as goal

pub returns : goal.returns
returns c = record { law = by_other }
