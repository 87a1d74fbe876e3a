use Rattle.intern_log.proofs.EntryCountLaws.{others_drop}
use Rattle.intern_log.proofs.entry_count_laws.release_of_a_counted_entry.Goals as goal

pub returns : goal.returns
returns c = record { law = others_drop }
