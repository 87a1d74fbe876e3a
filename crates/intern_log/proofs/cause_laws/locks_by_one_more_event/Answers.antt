use Rattle.intern_log.proofs.CauseLaws.{locked_at-one_more}
use Rattle.intern_log.proofs.cause_laws.locks_by_one_more_event.Goals as goal

pub returns : goal.returns
returns c = record { law = locked_at-one_more }
