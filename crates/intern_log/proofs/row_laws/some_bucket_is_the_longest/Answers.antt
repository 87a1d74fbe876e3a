use Rattle.intern_log.proofs.RowLaws.{longest_is_reached}
use Rattle.intern_log.proofs.row_laws.some_bucket_is_the_longest.Goals as goal

pub returns : goal.returns
returns c = record { law = longest_is_reached }
