-- Count words: the generation of a slot, and how often its text is held.
use Rattle.std.specs.Prelude.{ℕ, ◌+◌, ◌-◌, ◌==◌, ◌&&◌, Bool, not, min}
use Rattle.marked_word.specs.Count.{count_word, count_of}
use Rattle.intern_log.specs.declared.event.Handle.{Handle}
use Rattle.atomic_step.specs.declared.count.Change.{Change}
use Rattle.atomic_step.specs.declared.count.Change.TheVariants.{Drop, Permanent, Kill}

-- the generation and the count of a count word
abbrev pub generation_of : ℕ → ℕ
generation_of word = (count_of word).generation

abbrev pub holds_of : ℕ → ℕ
holds_of word = (count_of word).count

-- a count word of the same generation with another count
abbrev pub with_holds : ℕ → ℕ → ℕ
with_holds word holds = count_word (record { generation = generation_of word; count = holds })

-- one more hold; 65,535 stays
abbrev pub raised : ℕ → ℕ
raised word = with_holds word (min (holds_of word + 1) 65535)

-- the count word of a handle's slot while the entry has so many holds
abbrev pub holds_word : Handle → ℕ → ℕ
holds_word handle holds = count_word (record { generation = handle.generation; count = holds })

-- the handle of the entry in a slot with this count word
abbrev pub handle_at : ℕ → ℕ → Handle
handle_at slot word = record { slot = slot; generation = generation_of word }

-- the count word that a change leaves
abbrev pub changed : Change → ℕ → ℕ
changed Drop count = with_holds count (holds_of count - 1)
changed Permanent count = with_holds count 65535
changed Kill count = with_holds count 0

-- whether a count word is that of the handle's live entry
abbrev pub is_live : Handle → ℕ → Bool
is_live h word = (generation_of word == h.generation) && not (holds_of word == 0)
