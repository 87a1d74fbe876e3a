-- Reading the text of a handle.
use Rattle.std.specs.Prelude.{ℕ, ◌+◌, nat_lt, if◌then◌else◌, Option, Some, None}
use Rattle.text_words.specs.Words.{words_of}
use Rattle.marked_word.specs.Meta.{length_in}
use Rattle.intern_log.specs.declared.event.Kind.{Kind}
use Rattle.intern_log.specs.declared.event.Kind.TheVariants.{Counted, Weak}
use Rattle.atomic_step.specs.declared.answer.Answer.{Answer}
use Rattle.atomic_step.specs.declared.answer.Answer.TheVariants as answer
use Rattle.atomic_step.specs.declared.step.Step.TheVariants as step
use Rattle.call_machine.specs.declared.stage.Along.{Along}
use Rattle.call_machine.specs.declared.stage.Asked.{Asked}
use Rattle.call_machine.specs.declared.stage.CallStage.{CallStage}
use Rattle.call_machine.specs.declared.stage.CallStage.TheVariants as stage
use Rattle.call_machine.specs.declared.read.ReadStage.{ReadStage}
use Rattle.call_machine.specs.declared.read.ReadStage.TheVariants.{Enter, Count, Meta, Text}
use Rattle.call_machine.specs.Leave.{leaves_with}
use Rattle.atomic_step.specs.Count.{is_live}
use Rattle.call_machine.specs.declared.enter.EnterStage.{EnterStage}
use Rattle.call_machine.specs.declared.enter.EnterStage.TheVariants.{LoadCounter}
use Rattle.call_machine.specs.Enter.{enter_row}
use Rattle.atomic_step.specs.Turn.{Row, row, map_row}

-- in a weak table a text is read inside a section
abbrev pub first_read : Kind → ReadStage
first_read Counted = Meta
first_read Weak = Enter LoadCounter

-- still opening the section, or inside it
abbrev pub entered : Option EnterStage → ReadStage
entered (Some s) = Enter s
entered None = Count

-- the text is read; in a weak table the section is closed then
abbrev pub read_all : Kind → Answer → CallStage
read_all Counted a = stage.Answered a
read_all Weak a = leaves_with None a

-- the words of the text are read from one on
abbrev pub reads_from : Kind → ℕ → ℕ → CallStage
reads_from kind at len = if nat_lt at (words_of len) then stage.Read (Text at len) else read_all kind (answer.Text len)

-- what each stage does
abbrev pub read_row : Asked → Along → ReadStage → Row (Along × CallStage)
read_row q w (Enter s) = map_row (λ next. (w, stage.Read (entered next))) (enter_row q.number s)
read_row q w Count = row (step.LoadCount q.handle.slot) (λ word. (w, if is_live q.handle word then stage.Read Meta else leaves_with None answer.Stale))
read_row q w Meta = row (step.LoadMeta q.handle.slot) (λ word. (w, reads_from q.kind 0 (length_in word)))
read_row q w (Text at len) = row (step.LoadText q.handle.slot at) (λ word. (w, reads_from q.kind (at + 1) len))
