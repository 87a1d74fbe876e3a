use Rattle.intern_log.proofs.GrownLogLaws.{none_is_being_replaced}
use Rattle.intern_log.proofs.grown_log.no_row_is_being_replaced.Goals as goal

pub returns : goal.returns
returns c = record { law = none_is_being_replaced }
