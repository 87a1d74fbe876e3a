use Rattle.intern_log.proofs.OrderlyLaws.{lawful_is_orderly}
use Rattle.intern_log.proofs.lawful_logs.lawful_logs_are_orderly.Goals as goal

pub returns : goal.returns
returns c = record { law = lawful_is_orderly }
