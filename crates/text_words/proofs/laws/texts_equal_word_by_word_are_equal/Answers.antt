use Rattle.text_words.proofs.RoundTrip.{same_texts_by_word}
use Rattle.text_words.proofs.laws.texts_equal_word_by_word_are_equal.Goals as goal

pub returns : goal.returns
returns c = record { law = λ a b of_a of_b long same. same_texts_by_word a b of_a of_b long same }
