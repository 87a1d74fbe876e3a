use Rattle.std.specs.Prelude.{ℕ, ◌+◌, ◌*◌, ◌/◌, ◌%◌}
use Rattle.marked_word.specs.declared.count.Count.{Count}

-- the word of a count: the generation times 65,536, plus the count
abbrev pub count_word : Count → ℕ
count_word count = count.generation * 65536 + count.count

-- the count of a word
abbrev pub count_of : ℕ → Count
count_of word = record { generation = word / 65536; count = word % 65536 }
