use Rattle.intern_log.proofs.WorkedPlainLogLaws.{worked_symbol_log_is_plain}
use Rattle.intern_log.proofs.worked_plain_logs.symbol_log_of_three_names.Goals as goal

pub returns : goal.returns
returns c = record { law = worked_symbol_log_is_plain }
