use Rattle.intern_log.proofs.WorkedPlainLogLaws.{worked_string_log_is_plain}
use Rattle.intern_log.proofs.worked_plain_logs.string_log_of_three_literals.Goals as goal

pub returns : goal.returns
returns c = record { law = worked_string_log_is_plain }
