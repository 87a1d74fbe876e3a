use Rattle.intern_log.proofs.Gone.{gone_for_good}
use Rattle.intern_log.proofs.lawful_logs.gone_handles_never_come_back.Goals as goal

pub returns : goal.returns
returns c = record { law = λ table front rest h lawful created gone. gone_for_good front rest h lawful.fresh created gone }
