use Rattle.intern_log.proofs.RowLaws.{settle_level-least, settle_level-greatest}
use Rattle.intern_log.proofs.row_laws.settle_level_is_a_level.Goals as goal

pub returns : goal.returns
returns c = record { least = settle_level-least; greatest = settle_level-greatest }
