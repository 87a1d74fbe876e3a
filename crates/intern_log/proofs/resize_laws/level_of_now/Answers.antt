use Rattle.intern_log.specs.Now.{opening}
use Rattle.intern_log.proofs.OrderlyLaws.{level_is}
use Rattle.intern_log.proofs.resize_laws.level_of_now.Goals as goal

pub returns : goal.returns
returns c = record { law = λ min_level log. level_is (opening min_level) log }
