-- A step on a whole table of words, and which words stand in one.
use Rattle.std.specs.Prelude.{◌≡◌, ℕ, ◌+◌, ◌-◌, ◌*◌, ◌/◌, ◌%◌, ◌^◌, ◌<◌, ◌≤◌, ◌⊎◌, List, get_or, set}
use Rattle.table_shape.specs.declared.shape.Shape.{Shape}
use Rattle.table_shape.specs.declared.place.Place.{Place}
use Rattle.table_shape.specs.declared.place.Place.TheVariants as place
use Rattle.table_shape.specs.Place.{IsInside, index_of}
use Rattle.atomic_step.specs.declared.step.Step.{Step}
use Rattle.atomic_step.specs.Access.{word_after}
use Rattle.atomic_step.specs.Step.{access_of}

-- the word at a place
abbrev pub word_at : Shape → Place → List ℕ → ℕ
word_at shape p words = get_or words (index_of shape p) 0

-- the words after a step: that of its place is changed by its deed
abbrev pub words_after : Shape → Step → List ℕ → List ℕ
words_after shape s words = set words (index_of shape (access_of s).place) (word_after (access_of s).deed (word_at shape (access_of s).place words))

-- the word may stand at the place, whatever was done: a head that is redirected is locked too
abbrev pub IsWordAt : Shape → Place → ℕ → Type 0
IsWordAt shape place.Counter word = (word % 2 ≡ 0) × (word < 2 ^ 64)
IsWordAt shape place.ResizeLock word = word ≤ shape.seats
IsWordAt shape place.Level word = (shape.min_level ≤ word) × (word ≤ shape.max_level)
IsWordAt shape place.NewLevel word = (word ≡ 0) ⊎ ((shape.min_level + 1 ≤ word) × (word ≤ shape.max_level + 1))
IsWordAt shape (place.Section number) word = (word ≡ 0) ⊎ (word % 2 ≡ 1)
IsWordAt shape (place.Head row bucket) word = (word / 4 ≤ shape.slots) × ¬ (word % 4 ≡ 2)
IsWordAt shape (place.Claim slot) word = word ≤ 1
IsWordAt shape (place.Link slot) word = word ≤ shape.slots
IsWordAt shape (place.Meta slot) word = (word < 2 ^ 48) × (word % 65536 ≤ 8 * shape.text_words)
IsWordAt shape _ word = Unit {0}

-- each word of a table may stand at its place
abbrev pub AreWordsOf : Shape → List ℕ → Type 0
AreWordsOf shape words = (p : Place) → IsInside shape p → IsWordAt shape p (word_at shape p words)

-- no work, grace or sweep begins any more once the counter has grown far; a new level is loaded only while there is one
abbrev pub IsReadable : Place → ℕ → Type 0
IsReadable place.Counter word = word ≤ 2 ^ 64 - 4
IsReadable place.NewLevel word = 1 ≤ word
IsReadable _ word = Unit {0}

-- what a load of the word may rely on
abbrev pub IsFoundAt : Shape → Place → ℕ → Type 0
IsFoundAt shape place.Counter word = (word % 2 ≡ 0) × (word ≤ 2 ^ 64 - 4)
IsFoundAt shape place.Level word = (shape.min_level ≤ word) × (word ≤ shape.max_level)
IsFoundAt shape place.NewLevel word = (shape.min_level + 1 ≤ word) × (word ≤ shape.max_level + 1)
IsFoundAt shape (place.Head row bucket) word = word ≤ 4 * shape.slots + 3
IsFoundAt shape (place.Link slot) word = word ≤ shape.slots
IsFoundAt shape (place.Meta slot) word = (word < 2 ^ 48) × (word % 65536 ≤ 8 * shape.text_words)
IsFoundAt shape _ word = Unit {0}
