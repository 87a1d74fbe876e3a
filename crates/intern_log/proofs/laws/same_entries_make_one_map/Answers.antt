use Rattle.intern_log.proofs.Entries.{same_entries}
use Rattle.intern_log.proofs.laws.same_entries_make_one_map.Goals as goal

pub returns : goal.returns
returns c = record { law = λ m n same. same_entries m n same }
