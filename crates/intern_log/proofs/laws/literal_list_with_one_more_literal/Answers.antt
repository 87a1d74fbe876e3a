use Rattle.intern_log.proofs.PlainLogLaws.{IsLiteralList-push}
use Rattle.intern_log.proofs.laws.literal_list_with_one_more_literal.Goals as goal

pub returns : goal.returns
returns c = record { law = λ literals whats literal h what run intern. IsLiteralList-push literals whats literal h what run intern }
