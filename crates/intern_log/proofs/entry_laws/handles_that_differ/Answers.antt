use Rattle.intern_log.proofs.EntryLaws.{handles_differ_is}
use Rattle.intern_log.proofs.entry_laws.handles_that_differ.Goals as goal

pub returns : goal.returns
returns c = record { law = handles_differ_is }
