-- What a run of a command does: which file it reads, how it ends, and what it writes.
use Rattle.std.specs.Prelude.{String, ◌≡◌, ℕ, nat_eq, List, [], ◌∷◌, ◌++◌, Option, option_map, IfSome, IsTrue}
use Rattle.std.specs.Option.{option_and_then}
use Rattle.std.specs.List.{list_any}
use Rattle.io_edge.specs.Faults.{Rose}
use Rattle.table_program.specs.declared.command.Command.{Command}
use Rattle.table_program.specs.declared.command.Command.TheVariants.{Plain, Replay}
use Rattle.table_program.specs.declared.outcome.Note.{Note}
use Rattle.table_program.specs.declared.outcome.Note.TheVariants as note
use Rattle.table_program.specs.declared.reading.ReadFault.{ReadFault}
use Rattle.table_program.specs.declared.reading.ReadFault.TheVariants.{Failed, TooLong, OutOfMemory}
use Rattle.table_program.specs.Limits.{bytes_note, file_note}
use Rattle.table_program.specs.Words.{name_for}
use Rattle.table_program.specs.Writing.{WritesPart}

-- the bytes of the file that the words name for the command, where they are told
abbrev pub told_file : {A : Type 0} → Command → (List ℕ → Option (List ℕ)) → List (String A) → Option (List ℕ)
told_file command bytes_of words = option_and_then bytes_of (name_for command words)

-- the count of faults of the file that the words name for the command rose
abbrev pub NamedRose : {A : Type 0} → Command → List (String A) → (List ℕ → ℕ) → (List ℕ → ℕ) → Type 0
NamedRose command words old new = IfSome (name_for command words) (λ name. Rose (old name) (new name))

-- the note of the first limit of the command that the file passes
abbrev pub limit_note : Command → List ℕ → Option Note
limit_note Plain bytes = file_note bytes
limit_note Replay bytes = bytes_note bytes

-- whether the status is one of these
abbrev pub IsOneOf : List ℕ → ℕ → Type 0
IsOneOf statuses status = IsTrue (list_any (nat_eq status) statuses)

-- the statuses where nothing but memory can be wanting: only a script has faults of its own
abbrev pub complete_statuses : Command → List ℕ
complete_statuses Plain = 0 ∷ 6 ∷ []
complete_statuses Replay = 0 ∷ 6 ∷ 8 ∷ []

-- the note is of the kind that goes with a status of `plain`: the one file at 2, a limit at 4, and else nothing
abbrev pub IsPlainNote : ℕ → Note → Type 0
IsPlainNote status note.Nothing = IsOneOf (0 ∷ 1 ∷ 3 ∷ 6 ∷ []) status
IsPlainNote status (note.File number) = (status ≡ 2) × (number ≡ 1)
IsPlainNote status (note.Limit which value) = status ≡ 4
IsPlainNote status (note.Counter counter) = ⊥
IsPlainNote status (note.Line number) = ⊥

-- the note is of the kind that goes with a status of any command: a line at 8, and else as with `plain`
abbrev pub IsRunNote : ℕ → Note → Type 0
IsRunNote status (note.Line number) = status ≡ 8
IsRunNote status other = IsPlainNote status other

-- a text of this kind was written behind what was there before
pub record Writes (IsText : List ℕ → Type 0) (before after : Option (List ℕ)) : Type 0 where
  pub text : List ℕ
  pub is_text : IsText text
  pub appended : after ≡ option_map (λ written. written ++ text) before

-- some bytes from the front of a text of this kind were written behind what was there before, and not the whole
pub record WritesPartOf (IsText : List ℕ → Type 0) (before after : Option (List ℕ)) : Type 0 where
  pub text : List ℕ
  pub is_text : IsText text
  pub part : WritesPart text before after

-- the status where a file was not read whole
abbrev pub status_of : ReadFault → ℕ
status_of Failed = 2
status_of TooLong = 4
status_of OutOfMemory = 6
