use Rattle.intern_log.proofs.PlainLogLaws.{plain_string_log_is_one}
use Rattle.intern_log.proofs.laws.plain_string_log_is_unique.Goals as goal

pub returns : goal.returns
returns c = record { law = λ hold literals a b of_a of_b. plain_string_log_is_one hold literals a b of_a of_b }
