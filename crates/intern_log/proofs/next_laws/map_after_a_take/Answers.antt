use Rattle.intern_log.proofs.EntryLaws.{put_elsewhere}
use Rattle.intern_log.proofs.NextLaws.{raised_below, raised_stays, after_take}
use Rattle.intern_log.proofs.next_laws.map_after_a_take.Goals as goal

pub returns : goal.returns
returns c = record {
  rises = λ m text h e is below. after_take m text h e _ is (raised_below e below);
  stays = λ m text h e is at. after_take m text h e e is (raised_stays e at);
  elsewhere = λ m text h other differ. put_elsewhere m text _ other differ;
}
