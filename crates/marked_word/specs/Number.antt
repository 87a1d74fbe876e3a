use Rattle.std.specs.Prelude.{ℕ, ◌+◌, ◌-◌, Option, Some, None}

-- the word of a section: 0 where it is closed, else the counter that its reader loaded, which is even, with bit 0 set
abbrev pub section_word : Option ℕ → ℕ
section_word None = 0
section_word (Some counter) = counter + 1

-- the word of the resize lock: 0 where nobody has it, else its owner's number plus 1
abbrev pub owner_word : Option ℕ → ℕ
owner_word None = 0
owner_word (Some number) = number + 1

-- the word of the new level: 0 where there is none, else the level plus 1
abbrev pub new_level_word : Option ℕ → ℕ
new_level_word None = 0
new_level_word (Some level) = level + 1

-- the new level of a word that has one
abbrev pub new_level_of : ℕ → ℕ
new_level_of word = word - 1
