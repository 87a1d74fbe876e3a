use Rattle.intern_log.proofs.RowLaws.{settle_level-holds}
use Rattle.intern_log.proofs.row_laws.settle_level_holds_the_texts.Goals as goal

pub returns : goal.returns
returns c = record { law = settle_level-holds }
