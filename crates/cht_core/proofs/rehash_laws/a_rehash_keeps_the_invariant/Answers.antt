use Rattle.cht_core.proofs.RehashKeeps.{rehash_keeps}
use Rattle.cht_core.proofs.RehashStays.{says_the_same, keeps_words}
use Rattle.cht_core.proofs.rehash_laws.a_rehash_keeps_the_invariant.Goals as goal

pub returns : goal.returns
returns c = record { keeps = rehash_keeps; now = says_the_same; words = keeps_words }
