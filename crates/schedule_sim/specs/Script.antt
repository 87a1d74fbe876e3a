-- Which script the bytes are, and which line is the first that is not of the form.
use Rattle.std.specs.Prelude.{◌≡◌, ℕ, ◌+◌, ◌^◌, ◌<◌, ◌⊎◌, List, [], ◌∷◌, ◌++◌, length, All, codes, decimal}
use Rattle.intern_log.specs.declared.event.Kind.{Kind}
use Rattle.intern_log.specs.declared.event.Kind.TheVariants.{Counted, Weak}
use Rattle.table_shape.specs.declared.shape.Shape.{Shape}
use Rattle.cht_core.specs.State.{IsFirstCounter}
use Rattle.schedule_sim.specs.declared.script.Script.{Script}
use Rattle.schedule_sim.specs.declared.script.Numbered.{Numbered}
use Rattle.schedule_sim.specs.declared.script.ScriptFault.{ScriptFault}
use Rattle.schedule_sim.specs.declared.script.ScriptFault.TheVariants as faults
use Rattle.schedule_sim.specs.Fit.{IsFit}
use Rattle.schedule_sim.specs.Parts.{parts_at}
use Rattle.schedule_sim.specs.Line.{IsLine, IsOfForm}
use Rattle.schedule_sim.specs.Lines.{lines_of, told_lines}

-- what a kind of table writes
abbrev pub table_word : Kind → List ℕ
table_word Counted = codes "counted"
table_word Weak = codes "weak"

-- the parts that the numbers of a shape write, and then others
abbrev pub shape_parts : Shape → List (List ℕ) → List (List ℕ)
shape_parts shape more =
    decimal shape.slots ∷ decimal shape.text_words ∷ decimal shape.min_level ∷ decimal shape.max_level ∷ decimal shape.seats ∷ more

-- the parts that the opening of a script writes
abbrev pub opening_parts : Kind → Shape → ℕ → List (List ℕ)
opening_parts kind shape counter = codes "shape" ∷ table_word kind ∷ shape_parts shape (decimal counter ∷ [])

-- the numbers fit those of a shape in memory
pub record IsSmall (shape : Shape) : Type 0 where
  pub slots : shape.slots < 2 ^ 32
  pub text_words : shape.text_words < 2 ^ 32
  pub min_level : shape.min_level < 2 ^ 8
  pub max_level : shape.max_level < 2 ^ 8
  pub seats : shape.seats < 2 ^ 32

-- the bytes open a script of a table of the kind and the shape, with the counter
pub record IsOpening (bytes : List ℕ) (kind : Kind) (shape : Shape) (counter : ℕ) : Type 0 where
  pub parts : parts_at 32 bytes ≡ opening_parts kind shape counter
  pub fit : IsFit shape
  pub begins : IsFirstCounter counter

-- the numbered bytes are those of the lines, one by one
abbrev pub AreLines : Kind → List (ℕ × List ℕ) → List Numbered → Type 0
AreLines kind [] [] = Unit {0}
AreLines kind (told ∷ more) (numbered ∷ others) = (numbered.number ≡ told.0) × IsLine kind told.1 numbered.line × AreLines kind more others
AreLines kind _ _ = ⊥

-- the script is of these numbered bytes, of which the first open it
abbrev pub IsScriptOf : List (ℕ × List ℕ) → Script → Type 0
IsScriptOf [] script = ⊥
IsScriptOf (first ∷ more) script = IsOpening first.1 script.kind script.shape script.first_counter × AreLines script.kind more script.lines.items

-- the script is that of the bytes
abbrev pub IsScript : List ℕ → Script → Type 0
IsScript bytes script = IsScriptOf (told_lines bytes) script

-- the bytes of this number are the first that are not of the form
pub record IsFirstFault (kind : Kind) (told : List (ℕ × List ℕ)) (number : ℕ) : Type 0 where
  pub before : List (ℕ × List ℕ)
  pub bytes : List ℕ
  pub after : List (ℕ × List ℕ)
  pub place : told ≡ before ++ (number, bytes) ∷ after
  pub formed : All (λ (t : ℕ × List ℕ). IsOfForm kind t.1) before
  pub fault : ¬ (IsOfForm kind bytes)

-- the bytes open no script
abbrev pub OpensNone : List ℕ → Type 0
OpensNone bytes = (kind : Kind) (shape : Shape) (counter : ℕ) → ¬ (IsOpening bytes kind shape counter)

-- the bytes open a script, and behind them the first fault is at this number
pub record IsLaterFault (opening : List ℕ) (told : List (ℕ × List ℕ)) (number : ℕ) : Type 0 where
  pub kind : Kind
  pub shape : Shape
  pub counter : ℕ
  pub opens : IsOpening opening kind shape counter
  pub fault : IsFirstFault kind told number

-- among so many lines, the number is that of the first that is not of the form
abbrev pub IsFaultAmong : ℕ → List (ℕ × List ℕ) → ℕ → Type 0
IsFaultAmong lines [] number = number ≡ lines + 1
IsFaultAmong lines (first ∷ more) number = ((number ≡ first.0) × OpensNone first.1) ⊎ IsLaterFault first.1 more number

-- the number is that of the first line that is not of the form
abbrev pub IsFault : List ℕ → ℕ → Type 0
IsFault bytes number = IsFaultAmong (length (lines_of bytes)) (told_lines bytes) number

-- a fault at a line is as the number says; want of memory may come at any time
abbrev pub IsTold : (ℕ → Type 0) → ScriptFault → Type 0
IsTold IsAt (faults.Line number) = IsAt number
IsTold IsAt faults.OutOfMemory = Unit {0}
