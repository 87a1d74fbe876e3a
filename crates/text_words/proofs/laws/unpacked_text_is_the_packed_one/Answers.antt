use Rattle.text_words.proofs.RoundTrip.{unpacked-packed_words}
use Rattle.text_words.proofs.laws.unpacked_text_is_the_packed_one.Goals as goal

pub returns : goal.returns
returns c = record { law = λ text bytes. unpacked-packed_words text bytes }
