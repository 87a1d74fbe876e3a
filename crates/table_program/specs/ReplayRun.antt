-- What a run of `replay` makes of a file's bytes.
use Rattle.std.specs.Prelude.{◌⊎◌, ℕ, List}
use Rattle.schedule_sim.specs.declared.script.Script.{Script}
use Rattle.schedule_sim.specs.declared.script.ScriptFault.{ScriptFault}
use Rattle.schedule_sim.specs.declared.script.ScriptFault.TheVariants as fault
use Rattle.schedule_sim.specs.Script.{IsScript, IsFault}
use Rattle.schedule_sim.specs.Turns.{Runs, FailsAt}
use Rattle.table_program.specs.declared.outcome.Note.{Note}
use Rattle.table_program.specs.declared.outcome.Note.TheVariants as note
use Rattle.table_program.specs.declared.outcome.Outcome.{Outcome}

-- the bytes are a script, and the text is what a run of it prints
pub record IsReplay (bytes text : List ℕ) : Type 0 where
  pub script : Script
  pub is_script : IsScript bytes script
  pub runs : Runs script text

-- the bytes are a script, and the line of this number is the first that is at fault as its turn comes
pub record FailsInTurn (bytes : List ℕ) (number : ℕ) : Type 0 where
  pub script : Script
  pub is_script : IsScript bytes script
  pub fails : FailsAt script number

-- the number is that of the first line at fault: one that is not of the form, or in a script one that is at fault as its turn comes
abbrev pub HasScriptFault : List ℕ → ℕ → Type 0
HasScriptFault bytes number = IsFault bytes number ⊎ FailsInTurn bytes number

-- the note tells the first line at fault
abbrev pub TellsScriptFault : List ℕ → Note → Type 0
TellsScriptFault bytes (note.Line number) = HasScriptFault bytes number
TellsScriptFault bytes _ = ⊥

-- the outcome where a script was not run to its end
abbrev pub outcome_of : ScriptFault → Outcome
outcome_of (fault.Line number) = record { status = 8; note = note.Line number }
outcome_of fault.OutOfMemory = record { status = 6; note = note.Nothing }
