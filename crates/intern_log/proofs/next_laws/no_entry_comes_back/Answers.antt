use Rattle.std.proofs.Common.{Some, None}
use Rattle.intern_log.specs.TextMap.{at_handle}
use Rattle.intern_log.specs.Log.{lowered, made_permanent}
use Rattle.intern_log.proofs.EntryLaws.{altered_none}
use Rattle.intern_log.proofs.next_laws.no_entry_comes_back.Goals as goal

pub returns : goal.returns
returns c = record {
  drop = λ m text h none. altered_none m (at_handle h lowered) text none;
  perm = λ m text h none. altered_none m (at_handle h (λ x. Some (made_permanent x))) text none;
  kill = λ m text h none. altered_none m (at_handle h (λ x. None)) text none;
}
