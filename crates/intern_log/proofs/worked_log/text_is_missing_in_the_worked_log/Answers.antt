use Rattle.intern_log.proofs.WorkedLogLaws.{cat_is_missing}
use Rattle.intern_log.proofs.worked_log.text_is_missing_in_the_worked_log.Goals as goal

pub returns : goal.returns
returns c = record { law = cat_is_missing }
