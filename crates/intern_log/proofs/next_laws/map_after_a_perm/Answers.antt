use Rattle.std.proofs.Common.{Some, refl}
use Rattle.intern_log.specs.Log.{made_permanent}
use Rattle.intern_log.proofs.NextLaws.{there, elsewhere}
use Rattle.intern_log.proofs.next_laws.map_after_a_perm.Goals as goal

pub returns : goal.returns
returns c = record {
  there = λ m text h e is at. there m text h e (λ x. Some (made_permanent x)) _ is at refl;
  elsewhere = λ m text h e is differ. elsewhere m text h e (λ x. Some (made_permanent x)) is differ;
}
