use Rattle.std.proofs.Common.{refl}
use Rattle.section_core.proofs.Waiting.{even_passed}
use Rattle.section_core.proofs.word_laws.closed_sections_are_passed.Goals as goal

pub returns : goal.returns
returns c = record { closed = λ raised. even_passed raised 0 refl; even = even_passed }
