use Rattle.intern_log.proofs.EntryCountLaws.{references_are}
use Rattle.intern_log.proofs.entry_count_laws.holds_that_an_entry_counts.Goals as goal

pub returns : goal.returns
returns c = record { law = references_are }
