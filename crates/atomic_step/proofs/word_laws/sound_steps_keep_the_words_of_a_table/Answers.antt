use Rattle.atomic_step.proofs.Words.{keeps_table}
use Rattle.atomic_step.proofs.word_laws.sound_steps_keep_the_words_of_a_table.Goals as goal

pub returns-clause-table : goal.returns-clause-table
returns-clause-table c = keeps_table
