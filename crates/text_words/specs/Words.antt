use Rattle.std.specs.Prelude.{ℕ, ◌+◌, ◌*◌, ◌/◌, ◌^◌, List, length, map, slice_index, take}
use Rattle.std.specs.Int.{w64, sum_through, to_le_bytes}
use Rattle.std.specs.List.{flat_map, range_with_len}

-- how many words of 8 bytes hold so many bytes
abbrev pub words_of : ℕ → ℕ
words_of bytes = (bytes + 7) / 8

-- word `at` of a text: the sum of byte 8 * at + j times 256 ^ j, for j from 0 through 7; after the text there are zeros
abbrev pub word_at : List ℕ → ℕ → ℕ
word_at text at = sum_through (λ j. slice_index text (8 * at + j) * 256 ^ j) 7

-- the words of a text, from word 0 on
abbrev pub packed_words : List ℕ → List ℕ
packed_words text = map (word_at text) (range_with_len 0 (words_of (length text)))

-- the first bytes of some words, each word lowest byte first
abbrev pub unpacked : List ℕ → ℕ → List ℕ
unpacked words bytes = take bytes (flat_map (to_le_bytes w64) words)
