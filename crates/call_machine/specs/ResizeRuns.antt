-- A grow or a shrink over all its polls, and what follows its events.
use Rattle.std.specs.Prelude.{ℕ, Bool, true, false, if◌then◌else◌, List, [], ◌∷◌, Option, Some, None}
use Rattle.intern_log.specs.declared.event.What.{What}
use Rattle.intern_log.specs.declared.event.What.TheVariants as what
use Rattle.table_shape.specs.declared.shape.Shape.{Shape}
use Rattle.table_shape.specs.Shape.{IsSound}
use Rattle.atomic_step.specs.declared.answer.Answer.{Answer}
use Rattle.atomic_step.specs.declared.answer.Answer.TheVariants as answer
use Rattle.atomic_step.specs.declared.plan.Plan.{Plan}
use Rattle.atomic_step.specs.declared.plan.Plan.TheVariants as plan
use Rattle.atomic_step.specs.declared.step.Step.TheVariants as step
use Rattle.atomic_step.specs.Run.{Machine, AreFitting, after_words, events_of_words, cost_of_words}
use Rattle.atomic_step.specs.Turn.{Row, map_row, plan_in}
use Rattle.intern_log.specs.declared.event.Kind.TheVariants.{Counted}
use Rattle.call_machine.specs.declared.caller.Caller.{Caller}
use Rattle.call_machine.specs.declared.resize.AfterGrace.{AfterGrace}
use Rattle.call_machine.specs.declared.resize.AfterGrace.TheVariants as after
use Rattle.call_machine.specs.declared.resize.Direction.{Direction}
use Rattle.call_machine.specs.declared.resize.ResizeAlong.{ResizeAlong}
use Rattle.call_machine.specs.declared.resize.ResizeStage.{ResizeStage}
use Rattle.call_machine.specs.declared.resize.ResizeStage.TheVariants.{PutNewLevel, Grace, ClearNewLevel, GiveResizeLock}
use Rattle.call_machine.specs.Polls.{turn_by, polls}
use Rattle.call_machine.specs.Resize.{Went, end_level, begun_resize, resize_row, resumed}
use Rattle.call_machine.specs.SoundResize.{LeadsToLevel}

-- where a resize is, and what its poll has answered
abbrev pub Being : Type 0
Being = (ResizeAlong × ResizeStage) × Option Answer

abbrev pub being : Went → Being
being went = ((went.0, went.1), went.2)

abbrev pub rows : Shape → Direction → ResizeAlong × ResizeStage → Row Being
rows shape d at = map_row being (resize_row shape d at.0 at.1)

abbrev pub resizes : Shape → Direction → Machine Being
resizes shape d = polls shape (rows shape d) (λ at. (at, resumed at.0 at.1))

abbrev pub begun : ℕ → Being
begun level = ((begun_resize level, PutNewLevel), None)

-- a run from the beginning on, in a table that has both levels
abbrev pub IsRun : Shape → Direction → ℕ → List ℕ → Type 0
IsRun shape d level words = IsSound shape × LeadsToLevel shape d level × AreFitting (resizes shape d) (begun level) words

-- where the run leads, which events it has, and what it has answered
abbrev pub ends_at : Shape → Direction → ℕ → List ℕ → Being
ends_at shape d level words = after_words (resizes shape d) (begun level) words

abbrev pub events_of_run : Shape → Direction → ℕ → List ℕ → List What
events_of_run shape d level words = events_of_words (resizes shape d) (begun level) words

abbrev pub is_done : Option Answer → Bool
is_done (Some (answer.Done did)) = true
is_done _ = false

-- what the end of a resize is still to do: the level is stored once, and then the resize lock is given back once
abbrev pub ending_waiting : ℕ → AfterGrace → List What
ending_waiting level after.ClearNewLevel = what.ResizeGiven ∷ []
ending_waiting level _ = what.Level level ∷ what.ResizeGiven ∷ []

abbrev pub ending_at : Direction → ResizeAlong → ResizeStage → List What
ending_at d w (Grace then_do s) = ending_waiting (end_level d w.level) then_do
ending_at d w ClearNewLevel = what.ResizeGiven ∷ []
ending_at d w GiveResizeLock = what.ResizeGiven ∷ []
ending_at d w _ = what.Level (end_level d w.level) ∷ what.ResizeGiven ∷ []

abbrev pub end_to_come : Direction → ResizeAlong → ResizeStage → Bool → List What
end_to_come d w s done = if done then [] else ending_at d w s

-- how many nodes of chains that are unzipped were moved past
abbrev pub moves_by : Plan → ℕ
moves_by (plan.Step (step.MoveEdge edge next)) = 1
moves_by _ = 0

abbrev pub moves_of_run : Shape → Direction → ℕ → List ℕ → ℕ
moves_of_run shape d level words = cost_of_words (resizes shape d) (λ at word. moves_by (plan_in (turn_by (rows shape d) at))) (begun level) words

-- a small table, for runs that are worked by hand
abbrev pub two_slots : Shape
two_slots = record { slots = 2; text_words = 1; min_level = 0; max_level = 1; seats = 1 }

-- its only seat
abbrev pub worked_caller : Caller
worked_caller = record { kind = Counted; shape = two_slots; seed = 0; number = 0; cursor = 0 }
