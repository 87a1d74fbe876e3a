use Rattle.intern_log.proofs.GrownLogLaws.{row_3_is_replaced, row_3_alone_is_replaced}
use Rattle.intern_log.proofs.grown_log.row_3_is_being_replaced.Goals as goal

pub returns : goal.returns
returns c = record { law = row_3_is_replaced; others = row_3_alone_is_replaced }
