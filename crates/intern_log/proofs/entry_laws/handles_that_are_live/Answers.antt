use Rattle.intern_log.proofs.EntryLaws.{is_live_is}
use Rattle.intern_log.proofs.entry_laws.handles_that_are_live.Goals as goal

pub returns : goal.returns
returns c = record { law = is_live_is }
