use Rattle.std.proofs.Common.{None, refl}
use Rattle.intern_log.proofs.NextLaws.{there, elsewhere}
use Rattle.intern_log.proofs.next_laws.map_after_a_kill.Goals as goal

pub returns : goal.returns
returns c = record {
  there = λ m text h e is at. there m text h e (λ x. None) _ is at refl;
  elsewhere = λ m text h e is differ. elsewhere m text h e (λ x. None) is differ;
}
