use Rattle.text_words.proofs.RoundTrip.{same_texts}
use Rattle.text_words.proofs.laws.texts_with_equal_words_are_equal.Goals as goal

pub returns : goal.returns
returns c = record { law = λ a b of_a of_b long words. same_texts a b of_a of_b long words }
