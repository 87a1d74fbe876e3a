use Rattle.section_core.proofs.Waiting.{was_inside-words, seat-words}
use Rattle.section_core.proofs.word_laws.numbers_are_compared_as_words.Goals as goal

pub returns : goal.returns
returns c = record { law = was_inside-words; seats = seat-words }
