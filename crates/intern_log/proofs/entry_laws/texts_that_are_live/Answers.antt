use Rattle.intern_log.proofs.EntryLaws.{live_texts_are}
use Rattle.intern_log.proofs.entry_laws.texts_that_are_live.Goals as goal

pub returns : goal.returns
returns c = record { law = live_texts_are }
