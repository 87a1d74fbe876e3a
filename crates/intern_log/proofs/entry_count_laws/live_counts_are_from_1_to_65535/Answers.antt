use Rattle.intern_log.proofs.EntryCountLaws.{counts_fit}
use Rattle.intern_log.proofs.entry_count_laws.live_counts_are_from_1_to_65535.Goals as goal

pub returns : goal.returns
returns c = record { law = counts_fit }
