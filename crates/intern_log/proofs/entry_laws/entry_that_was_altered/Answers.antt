use Rattle.intern_log.proofs.EntryLaws.{altered_some, altered_none}
use Rattle.intern_log.proofs.entry_laws.entry_that_was_altered.Goals as goal

pub returns : goal.returns
returns c = record { some = altered_some; none = altered_none }
