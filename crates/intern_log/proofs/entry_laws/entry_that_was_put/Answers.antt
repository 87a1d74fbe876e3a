use Rattle.intern_log.proofs.EntryLaws.{put_there, put_elsewhere}
use Rattle.intern_log.proofs.entry_laws.entry_that_was_put.Goals as goal

pub returns : goal.returns
returns c = record { there = put_there; elsewhere = put_elsewhere }
