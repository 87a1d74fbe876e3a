use Rattle.intern_log.proofs.Entries.{entry_of-next}
use Rattle.intern_log.proofs.laws.entry_after_an_event.Goals as goal

pub returns : goal.returns
returns c = record { law = λ m what text. entry_of-next m what text }
