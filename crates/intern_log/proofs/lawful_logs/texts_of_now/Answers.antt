use Rattle.intern_log.proofs.LawfulLaws.{texts-now_after}
use Rattle.intern_log.specs.Now.{opening}
use Rattle.intern_log.proofs.lawful_logs.texts_of_now.Goals as goal

pub returns : goal.returns
returns c = record { law = λ min_level log. texts-now_after (opening min_level) log }
