use Rattle.intern_log.proofs.Logs.{IsFresh-prefix}
use Rattle.intern_log.proofs.laws.prefix_of_a_fresh_log.Goals as goal

pub returns : goal.returns
returns c = record { law = λ front rest fresh. IsFresh-prefix front rest fresh }
