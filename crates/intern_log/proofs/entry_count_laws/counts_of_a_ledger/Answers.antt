use Rattle.intern_log.proofs.Ledger.{ledger_at_the_end}
use Rattle.intern_log.proofs.entry_count_laws.counts_of_a_ledger.Goals as goal

pub returns : goal.returns
returns c = record { law = ledger_at_the_end }
