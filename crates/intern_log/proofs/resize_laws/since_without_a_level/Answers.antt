use Rattle.intern_log.specs.Now.{opening}
use Rattle.intern_log.proofs.Replacing.{since_kept}
use Rattle.intern_log.proofs.resize_laws.since_without_a_level.Goals as goal

pub returns : goal.returns
returns c = record { law = λ min_level log none. since_kept (opening min_level) log none }
