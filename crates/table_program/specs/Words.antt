-- The words of the command line.
use Rattle.std.specs.Prelude.{◌≡◌, ℕ, List, [], ◌∷◌, map, Option, Some, None, if◌then◌else◌, codes, String, string_bytes}
use Rattle.std.specs.Str.{bytes_eq}
use Rattle.table_program.specs.declared.command.Command.{Command}
use Rattle.table_program.specs.declared.command.Command.TheVariants.{Plain, Replay}

-- the word of a command
abbrev pub word_of : Command → List ℕ
word_of Plain = codes "plain"
word_of Replay = codes "replay"

-- the second of two words, where the first is the given one
abbrev pub name_after : List ℕ → List (List ℕ) → Option (List ℕ)
name_after word (first ∷ name ∷ []) = if bytes_eq first word then Some name else None
name_after word _ = None

-- the name of the file, where the words are the command's and one more
abbrev pub name_for : {A : Type 0} → Command → List (String A) → Option (List ℕ)
name_for command words = name_after (word_of command) (map string_bytes words)

-- the words name a file for no command
abbrev pub IsNoCommand : {A : Type 0} → List (String A) → Type 0
IsNoCommand words = (command : Command) → name_for command words ≡ None
