-- Section words, and the one comparison of a grace.
use Rattle.std.specs.Prelude.{◌+◌, ◌-◌, ◌%◌, ◌==◌, ◌&&◌, ℕ, Bool, Option, Some, None, nat_lt}

-- the word of a section: 0 where it is closed, else the counter that its reader loaded, which is even, with bit 0 set
abbrev pub section_word : Option ℕ → ℕ
section_word None = 0
section_word (Some counter) = counter + 1

-- whether a grace that raised the counter to a value has to wait for a section word: bit 0 is set, and the rest of it, the counter as it was loaded, is below that value
abbrev pub waits_for : ℕ → ℕ → Bool
waits_for raised word = (word % 2 == 1) && nat_lt (word - 1) raised
