use Rattle.intern_log.proofs.Logs.{IsLegal-one_more}
use Rattle.intern_log.proofs.laws.legality_of_one_more_event.Goals as goal

pub returns : goal.returns
returns c = record { law = λ log event. IsLegal-one_more log event }
