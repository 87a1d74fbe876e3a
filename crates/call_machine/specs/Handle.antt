-- The calls by handle: a drop, a permanence, a kill.
use Rattle.std.specs.Prelude.{ℕ, ◌-◌, ◌==◌, if◌then◌else◌}
use Rattle.intern_log.specs.declared.event.Handle.{Handle}
use Rattle.atomic_step.specs.declared.answer.Answer.{Answer}
use Rattle.atomic_step.specs.declared.answer.Answer.TheVariants as answer
use Rattle.atomic_step.specs.declared.step.Step.TheVariants as step
use Rattle.call_machine.specs.declared.stage.Along.{Along}
use Rattle.call_machine.specs.declared.stage.Asked.{Asked}
use Rattle.call_machine.specs.declared.stage.CallStage.{CallStage}
use Rattle.call_machine.specs.declared.stage.CallStage.TheVariants as stage
use Rattle.atomic_step.specs.declared.count.Change.{Change}
use Rattle.atomic_step.specs.declared.count.Change.TheVariants.{Drop, Permanent, Kill}
use Rattle.call_machine.specs.declared.handle.HandleStage.{HandleStage}
use Rattle.call_machine.specs.declared.handle.HandleStage.TheVariants.{Count, Exchange}
use Rattle.atomic_step.specs.Count.{holds_of, is_live}
use Rattle.atomic_step.specs.SoundStep.{IsChangeable}
use Rattle.atomic_step.specs.Turn.{Row, row}

-- the count was found: a drop leaves 65,535, and a kill needs the live entry of the handle
abbrev pub count_found : Change → Handle → ℕ → CallStage
count_found Drop h word = if holds_of word == 65535 then stage.Answered answer.Permanent else stage.Handle (Exchange Drop word)
count_found Permanent h word = stage.Handle (Exchange Permanent word)
count_found Kill h word = if is_live h word then stage.Handle (Exchange Kill word) else stage.Answered answer.Stale

-- the answer of a change that was made, and of one that was not
abbrev pub made_answer : Change → ℕ → Answer
made_answer Drop count = answer.Dropped (holds_of count - 1)
made_answer Permanent count = answer.MadePermanent
made_answer Kill count = answer.Killed

abbrev pub lost_answer : Change → Answer
lost_answer Kill = answer.Stale
lost_answer _ = answer.Again

-- a drop that is exchanged begins with a count from 1 to 65,534
abbrev pub CanChange : HandleStage → Type 0
CanChange (Count change) = Unit {0}
CanChange (Exchange change count) = IsChangeable change count

-- what each stage does
abbrev pub handle_row : Asked → Along → HandleStage → Row (Along × CallStage)
handle_row q w (Count change) = row (step.SeeHandle change q.handle) (λ word. (w, count_found change q.handle word))
handle_row q w (Exchange change count) = row (step.ChangeEntry change q.handle count) (λ word.
    (w, stage.Answered (if word == count then made_answer change count else lost_answer change)))
