use Rattle.intern_log.proofs.EntryLaws.{has_handle_is}
use Rattle.intern_log.proofs.allowed_laws.takes_that_are_allowed.Goals as goal

pub returns : goal.returns
returns c = record { law = has_handle_is }
