use Rattle.intern_log.specs.Own.{is_gain}
use Rattle.intern_log.proofs.OneMore.{count-one_more}
use Rattle.intern_log.proofs.event_laws.gains_by_one_more_event.Goals as goal

pub returns : goal.returns
returns c = record { law = λ log e h. count-one_more (λ what. is_gain what h) log e }
