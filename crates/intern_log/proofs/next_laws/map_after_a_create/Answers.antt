use Rattle.std.proofs.Common.{Some}
use Rattle.intern_log.specs.Log.{new_entry}
use Rattle.intern_log.proofs.EntryLaws.{put_there, put_elsewhere}
use Rattle.intern_log.proofs.next_laws.map_after_a_create.Goals as goal

pub returns : goal.returns
returns c = record {
  there = λ m text h. put_there m text (Some (new_entry h));
  elsewhere = λ m text h other differ. put_elsewhere m text (Some (new_entry h)) other differ;
}
