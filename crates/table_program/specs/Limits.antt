-- The limits of the input.
use Rattle.std.specs.Prelude.{ℕ, ◌+◌, ◌≤◌, nat_lt, List, length, Option, Some, None, if◌then◌else◌}
use Rattle.std.specs.Option.{option_map, option_or}
use Rattle.name_scan.specs.declared.Token.{Token}
use Rattle.name_scan.specs.FileTexts.{text_of, texts_among, first_longer, names_among, literals_among}
use Rattle.name_scan.specs.Tokens.{tokens}
use Rattle.table_program.specs.declared.outcome.Limit.{Limit}
use Rattle.table_program.specs.declared.outcome.Limit.TheVariants.{Bytes, Text, Names, Literals}
use Rattle.table_program.specs.declared.outcome.Note.{Note}
use Rattle.table_program.specs.declared.outcome.Note.TheVariants as note

-- how many bytes there may be in a file and in a text, and how many names and literals
abbrev pub most_bytes : ℕ
most_bytes = 67108864

abbrev pub most_text : ℕ
most_text = 65535

abbrev pub most_names : ℕ
most_names = 1048576

abbrev pub most_literals : ℕ
most_literals = 1048576

-- the length of the first text that is too long
abbrev pub long_length : List (List ℕ) → Option ℕ
long_length texts = first_longer most_text texts

-- the note of a number that passes its limit
abbrev pub above : Limit → ℕ → ℕ → Option Note
above which most number = if nat_lt most number then Some (note.Limit which number) else None

-- the note of the first limit that the tokens pass: by a text that is too long, by the number of names, by the number of literals
abbrev pub tokens_note : List ℕ → List Token → Option Note
tokens_note bytes found =
    option_or (option_or (option_map (λ n. note.Limit Text n) (long_length (texts_among bytes found)))
    (above Names most_names (length (names_among bytes found))))
    (above Literals most_literals (length (literals_among bytes found)))

-- the note of a file that has too many bytes
abbrev pub bytes_note : List ℕ → Option Note
bytes_note bytes = if nat_lt most_bytes (length bytes) then Some (note.Limit Bytes (most_bytes + 1)) else None

-- the note of the first limit that a file of names and literals passes: the bytes are looked at before their tokens
abbrev pub file_note : List ℕ → Option Note
file_note bytes = option_or (bytes_note bytes) (tokens_note bytes (tokens bytes))

-- the token's text is no longer than a text may be
abbrev pub IsShort : List ℕ → Token → Type 0
IsShort bytes token = length (text_of bytes token) ≤ most_text
