use Rattle.std.proofs.Common.{refl}
use Rattle.intern_log.proofs.RowLaws.{one_more_text}
use Rattle.intern_log.proofs.row_laws.texts_in_a_bucket.Goals as goal

pub returns : goal.returns
returns c = record { none = λ seed level bucket. refl; more = one_more_text }
