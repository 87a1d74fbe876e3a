use Rattle.intern_log.proofs.AllowedLaws.{creates_is}
use Rattle.intern_log.proofs.allowed_laws.events_that_create_a_handle.Goals as goal

pub returns : goal.returns
returns c = record { law = creates_is }
