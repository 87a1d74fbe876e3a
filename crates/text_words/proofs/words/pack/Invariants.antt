use Rattle.std.proofs.Common.{◌≡◌, ◌++◌, map, drop}
use Rattle.std.specs.List.{range_with_len}
use Rattle.text_words.specs.Words.{word_at}
use Rattle.text_words.proofs.words.pack.Given as goal

-- the words before `at` are stored, and the rest is as it was
abbrev pub invariant-loop-at : goal.invariant-loop-at
invariant-loop-at l = l.out ≡ map (word_at l.text) (range_with_len 0 l.at) ++ drop l.at l.initial.out
