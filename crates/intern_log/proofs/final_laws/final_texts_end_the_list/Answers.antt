use Rattle.intern_log.proofs.FinalLaws.{finals-end, finals-length}
use Rattle.intern_log.proofs.final_laws.final_texts_end_the_list.Goals as goal

pub returns : goal.returns
returns c = record { end = finals-end; number = finals-length }
