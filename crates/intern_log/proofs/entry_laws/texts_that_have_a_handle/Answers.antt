use Rattle.intern_log.proofs.EntryLaws.{has_handle_is}
use Rattle.intern_log.proofs.entry_laws.texts_that_have_a_handle.Goals as goal

pub returns : goal.returns
returns c = record { law = has_handle_is }
