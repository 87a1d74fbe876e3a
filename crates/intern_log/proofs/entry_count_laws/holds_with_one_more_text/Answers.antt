use Rattle.intern_log.proofs.EntryCountLaws.{references_more}
use Rattle.intern_log.proofs.entry_count_laws.holds_with_one_more_text.Goals as goal

pub returns : goal.returns
returns c = record { law = references_more }
