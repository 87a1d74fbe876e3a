use Rattle.intern_log.proofs.WorkedLogLaws.{cat_is_live_again}
use Rattle.intern_log.proofs.worked_log.text_is_live_at_the_end_of_the_worked_log.Goals as goal

pub returns : goal.returns
returns c = record { law = cat_is_live_again }
