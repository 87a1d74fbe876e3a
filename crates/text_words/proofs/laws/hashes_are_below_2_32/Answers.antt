use Rattle.text_words.proofs.Hashes.{hash_of_32}
use Rattle.text_words.proofs.laws.hashes_are_below_2_32.Goals as goal

pub returns : goal.returns
returns c = record { law = hash_of_32 }
