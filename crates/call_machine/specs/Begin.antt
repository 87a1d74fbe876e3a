-- The calls that begin a clean, a grow, a shrink or a grace, and the poll of a grace.
use Rattle.std.specs.Prelude.{◌≡◌, ℕ, ◌^◌, ◌==◌, nat_le, if◌then◌else◌, Bool, true, false, Option, Some, None, List, []}
use Rattle.table_shape.specs.declared.shape.Shape.{Shape}
use Rattle.intern_log.specs.declared.event.What.{What}
use Rattle.intern_log.specs.declared.event.What.TheVariants as what
use Rattle.atomic_step.specs.declared.answer.Answer.{Answer}
use Rattle.atomic_step.specs.declared.answer.Answer.TheVariants as answer
use Rattle.atomic_step.specs.declared.plan.Plan.{Plan}
use Rattle.atomic_step.specs.declared.step.Step.TheVariants as step
use Rattle.atomic_step.specs.Run.{Machine, AreFitting, after_words}
use Rattle.atomic_step.specs.SoundStep.{CanFollow}
use Rattle.atomic_step.specs.Turn.{row, map_row, Turn, Answered, Makes, plan_in, next_in, event_by}
use Rattle.call_machine.specs.declared.begin.Beginning.{Beginning}
use Rattle.call_machine.specs.declared.begin.BeginStage.{BeginStage}
use Rattle.call_machine.specs.declared.begin.BeginStage.TheVariants as stage
use Rattle.call_machine.specs.declared.begin.Left.{Left}
use Rattle.call_machine.specs.declared.begin.Left.TheVariants as left
use Rattle.call_machine.specs.declared.begin.Task.{Task}
use Rattle.call_machine.specs.declared.begin.Task.TheVariants as task
use Rattle.call_machine.specs.declared.caller.Caller.{Caller}
use Rattle.call_machine.specs.declared.grace.Grace.{Grace}
use Rattle.call_machine.specs.declared.grace.GraceStage.{GraceStage}
use Rattle.call_machine.specs.declared.grace.GraceStage.TheVariants.{RaiseCounter, LoadSection}
use Rattle.call_machine.specs.declared.grace.Gracing.{Gracing}
use Rattle.call_machine.specs.declared.grace.Gracing.TheVariants.{Goes, Waits, Over}
use Rattle.call_machine.specs.declared.resize.Direction.{Direction}
use Rattle.call_machine.specs.declared.resize.Direction.TheVariants.{Grow, Shrink}
use Rattle.call_machine.specs.Grace.{grace_row}

-- the call has answered: with nothing unfinished, or a work or a grace has begun
abbrev pub answers : Answer → BeginStage
answers a = stage.Answered a left.Nothing

abbrev pub begun : Left → BeginStage
begun l = stage.Answered answer.Begun l

-- nothing begins at a counter of 2 ^ 48 or more
abbrev pub goes_on : Option Task → BeginStage
goes_on (Some t) = stage.TakeResizeLock t
goes_on None = stage.Grace (record { raised = 0; next = 0 }) RaiseCounter

abbrev pub counted : Option Task → ℕ → BeginStage
counted t counter = if nat_le (2 ^ 48) counter then answers (answer.Spent counter) else goes_on t

-- the resize lock is taken: a clean has begun, and the others look at the level
abbrev pub taken : Task → BeginStage
taken task.Clean = begun left.Clean
taken task.Grow = stage.LoadLevel Grow
taken task.Shrink = stage.LoadLevel Shrink

-- the level was loaded: at its bound the resize lock is given back
abbrev pub bounded : Shape → Direction → ℕ → BeginStage
bounded shape Grow level = if level == shape.max_level then stage.GiveResizeLock (answer.AtMaximum level) else begun (left.Resize Grow level)
bounded shape Shrink level = if level == shape.min_level then stage.GiveResizeLock (answer.AtMinimum level) else begun (left.Resize Shrink level)

-- the grace has gone a step: it has begun with the raised counter, and is over once no section is waited for
abbrev pub graced : GraceStage → Grace → Gracing → BeginStage
graced RaiseCounter g gracing = begun (left.Grace g)
graced LoadSection g Goes = stage.Grace g LoadSection
graced LoadSection g Waits = stage.Answered (answer.PendingSeat g.next) (left.Grace g)
graced LoadSection g Over = answers answer.Ready

-- what each stage does
abbrev pub begin_turn : Caller → BeginStage → Turn BeginStage
begin_turn caller (stage.LoadCounter t) = Makes (row step.LoadCounter (λ word. counted t word))
begin_turn caller (stage.TakeResizeLock t) = Makes (row (step.TakeResizeLock caller.number) (λ word. if word == 0 then taken t else answers answer.Busy))
begin_turn caller (stage.LoadLevel d) = Makes (row step.LoadLevel (λ word. bounded caller.shape d word))
begin_turn caller (stage.GiveResizeLock a) = Makes (row step.GiveResizeLock (λ word. answers a))
begin_turn caller (stage.Grace g s) = Makes (map_row (λ at. graced s at.0 at.1) (grace_row caller.shape.seats g s))
begin_turn caller (stage.Answered a l) = Answered a

-- what comes next, what comes of the word that is found, and which event that is
abbrev pub begin_plan : Beginning → Plan
begin_plan b = plan_in (begin_turn b.caller b.stage)

abbrev pub begin_got : Beginning → ℕ → Beginning
begin_got b word = record b { stage = next_in b.stage (begin_turn b.caller b.stage) word }

abbrev pub begin_event : Beginning → ℕ → Option What
begin_event b word = event_by [] (begin_plan b) word

-- such a call at its first stage
abbrev pub begins : Caller → Option Task → Beginning
begins caller t = record { caller = caller; stage = stage.LoadCounter t }

abbrev pub polls_grace : Caller → Grace → Beginning
polls_grace caller g = record { caller = caller; stage = stage.Grace g LoadSection }

-- what the call leaves its seat unfinished
abbrev pub left_of : BeginStage → Left
left_of (stage.Answered a l) = l
left_of _ = left.Nothing

-- such calls as one machine
abbrev pub beginnings : Machine Beginning
beginnings = record { got = begin_got; event = begin_event; Fits = λ b word. CanFollow b.caller.shape (begin_plan b) word }

-- the run of words leads from the call to this answer, with this left
abbrev pub AnswersBy : Beginning → List ℕ → Answer → Left → Type 0
AnswersBy b words a l = AreFitting beginnings b words × ((after_words beginnings b words).stage ≡ stage.Answered a l)

-- a work has begun
abbrev pub is_begun : Answer → Bool
is_begun answer.Begun = true
is_begun _ = false

abbrev pub is_work : Left → Bool
is_work left.Clean = true
is_work (left.Resize d level) = true
is_work _ = false

-- the events of such calls
abbrev pub IsBeginEvent : Option What → Type 0
IsBeginEvent None = Unit {0}
IsBeginEvent (Some what.ResizeTaken) = Unit {0}
IsBeginEvent (Some what.ResizeGiven) = Unit {0}
IsBeginEvent (Some what.Grace) = Unit {0}
IsBeginEvent _ = ⊥
