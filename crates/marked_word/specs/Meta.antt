use Rattle.std.specs.Prelude.{ℕ, ◌+◌, ◌*◌, ◌/◌, ◌%◌, ◌^◌, Option, Some, None, nat_lt, if◌then◌else◌}
use Rattle.marked_word.specs.declared.meta.Meta.{Meta}

-- the word of a text's hash and length: the hash times 65,536, plus the length
abbrev pub meta_word : Meta → ℕ
meta_word meta = meta.hash * 65536 + meta.length

-- the hash and length of a word, if it has 48 bits
abbrev pub meta_of : ℕ → Option Meta
meta_of word = if nat_lt word (2 ^ 48) then Some (record { hash = word / 65536; length = word % 65536 }) else None

-- the hash and the length in such a word
abbrev pub hash_in : ℕ → ℕ
hash_in word = word / 65536

abbrev pub length_in : ℕ → ℕ
length_in word = word % 65536
