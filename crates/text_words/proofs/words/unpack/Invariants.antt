use Rattle.std.proofs.Common.{◌≡◌, ◌*◌, ◌++◌, drop, take, w64}
use Rattle.std.specs.Int.{to_le_bytes}
use Rattle.std.specs.List.{flat_map}
use Rattle.text_words.proofs.words.unpack.Given as goal

-- the bytes of the words before `at` are stored, and the rest is as it was
abbrev pub invariant-loop-at : goal.invariant-loop-at
invariant-loop-at l = l.out ≡ flat_map (to_le_bytes w64) (take l.at l.words) ++ drop (8 * l.at) l.initial.out
