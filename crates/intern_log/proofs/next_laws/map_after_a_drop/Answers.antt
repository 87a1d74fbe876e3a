use Rattle.intern_log.specs.Log.{lowered}
use Rattle.intern_log.proofs.NextLaws.{there, elsewhere, lowered_falls, lowered_gone, lowered_stays}
use Rattle.intern_log.proofs.next_laws.map_after_a_drop.Goals as goal

pub returns : goal.returns
returns c = record {
  falls = λ m text h e is at above below. there m text h e lowered _ is at (lowered_falls e above below);
  gone = λ m text h e is at one. there m text h e lowered _ is at (lowered_gone e one);
  stays = λ m text h e is at most. there m text h e lowered _ is at (lowered_stays e most);
  elsewhere = λ m text h e is differ. elsewhere m text h e lowered is differ;
}
