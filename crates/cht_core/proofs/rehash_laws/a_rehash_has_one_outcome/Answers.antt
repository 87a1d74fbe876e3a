use Rattle.cht_core.proofs.RehashStays.{has_one_outcome}
use Rattle.cht_core.proofs.rehash_laws.a_rehash_has_one_outcome.Goals as goal

pub returns : goal.returns
returns c = record { one = has_one_outcome }
