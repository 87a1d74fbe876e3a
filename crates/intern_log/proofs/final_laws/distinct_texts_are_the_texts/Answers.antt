use Rattle.intern_log.proofs.FinalLaws.{same_texts, distinct_rising}
use Rattle.intern_log.proofs.final_laws.distinct_texts_are_the_texts.Goals as goal

pub returns : goal.returns
returns c = record { same = same_texts; rising = distinct_rising }
