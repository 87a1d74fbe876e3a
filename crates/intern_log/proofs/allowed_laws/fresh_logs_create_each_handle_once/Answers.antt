use Rattle.intern_log.proofs.AllowedLaws.{fresh_is}
use Rattle.intern_log.proofs.allowed_laws.fresh_logs_create_each_handle_once.Goals as goal

pub returns : goal.returns
returns c = record { law = fresh_is }
