-- The line that tells how a run ended.
use Rattle.std.specs.Prelude.{◌≡◌, ℕ, ◌==◌, Bool, ◌||◌, List, [], ◌++◌, if◌then◌else◌, IsTrue, codes}
use Rattle.std.specs.Fmt.{decimal}
use Rattle.table_program.specs.declared.outcome.Limit.{Limit}
use Rattle.table_program.specs.declared.outcome.Limit.TheVariants.{References, Bytes, Text, Names, Literals, Words}
use Rattle.table_program.specs.declared.outcome.Note.{Note}
use Rattle.table_program.specs.declared.outcome.Note.TheVariants.{Nothing, Limit as LimitNote, File, Counter, Line}

-- the word that stands for a limit
abbrev pub limit_word : Limit → List ℕ
limit_word References = codes "references"
limit_word Bytes = codes "bytes"
limit_word Text = codes "text"
limit_word Names = codes "names"
limit_word Literals = codes "literals"
limit_word Words = codes "words"

-- the statuses that have no note beside them
abbrev pub is_plain : ℕ → Bool
is_plain status = status == 0 || status == 1 || status == 3 || status == 5 || status == 6

-- the note is of the kind that goes with the status
abbrev pub IsNoteOf : ℕ → Note → Type 0
IsNoteOf status Nothing = IsTrue (is_plain status)
IsNoteOf status (File number) = status ≡ 2
IsNoteOf status (LimitNote which value) = status ≡ 4
IsNoteOf status (Counter counter) = status ≡ 7
IsNoteOf status (Line number) = status ≡ 8

-- the line of a status that has no note beside it
abbrev pub plain_text : ℕ → List ℕ
plain_text status = if status == 1 then codes "usage"
    else (if status == 3 then codes "write fault"
    else (if status == 5 then codes "no slot"
    else (if status == 6 then codes "no memory"
    else [])))

-- the line of a status and its note
abbrev pub note_text : ℕ → Note → List ℕ
note_text status Nothing = plain_text status
note_text status (File number) = codes "read fault: file " ++ decimal number
note_text status (LimitNote which value) = codes "limit: " ++ limit_word which ++ codes " " ++ decimal value
note_text status (Counter counter) = codes "spent: " ++ decimal counter
note_text status (Line number) = codes "script fault: line " ++ decimal number
