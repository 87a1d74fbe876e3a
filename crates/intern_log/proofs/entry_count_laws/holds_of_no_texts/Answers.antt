use Rattle.intern_log.proofs.EntryCountLaws.{references_none}
use Rattle.intern_log.proofs.entry_count_laws.holds_of_no_texts.Goals as goal

pub returns : goal.returns
returns c = record { law = references_none }
