use Rattle.intern_log.proofs.RowLaws.{no_longer_bucket}
use Rattle.intern_log.proofs.row_laws.no_bucket_is_longer.Goals as goal

pub returns : goal.returns
returns c = record { law = λ seed level bucket texts. no_longer_bucket seed level texts bucket }
