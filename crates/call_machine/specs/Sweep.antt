-- Sweeping the bucket of a text: it is found and locked within a section, cleaned once, and after a grace its slots are freed.
use Rattle.std.specs.Prelude.{ℕ, ◌^◌, min, nat_le, if◌then◌else◌, List, [], ◌∷◌, Option, Some, None}
use Rattle.intern_log.specs.declared.event.What.{What}
use Rattle.marked_word.specs.Head.{is_locked}
use Rattle.atomic_step.specs.declared.answer.Answer.TheVariants as answer
use Rattle.atomic_step.specs.declared.plan.Plan.{Plan}
use Rattle.atomic_step.specs.declared.step.Step.TheVariants as step
use Rattle.atomic_step.specs.Turn.{Row, row, map_row, Turn, Makes, plan_in, next_in, event_by}
use Rattle.atomic_step.specs.Turn as turn
use Rattle.call_machine.specs.declared.caller.Caller.{Caller}
use Rattle.call_machine.specs.declared.enter.EnterStage.TheVariants.{LoadCounter}
use Rattle.call_machine.specs.declared.find.FindStage.{FindStage}
use Rattle.call_machine.specs.declared.find.FindStage.TheVariants.{Enter}
use Rattle.call_machine.specs.declared.grace.GraceStage.TheVariants.{RaiseCounter, LoadSection}
use Rattle.call_machine.specs.declared.grace.Gracing.{Gracing}
use Rattle.call_machine.specs.declared.grace.Gracing.TheVariants as gracing
use Rattle.call_machine.specs.declared.lock.LockStage.TheVariants.{LockHead}
use Rattle.call_machine.specs.declared.lock.Locking.{Locking}
use Rattle.call_machine.specs.declared.lock.Locking.TheVariants as locking
use Rattle.call_machine.specs.declared.pass.Cleaning.{Cleaning}
use Rattle.call_machine.specs.declared.pass.FreeStage.{FreeStage}
use Rattle.call_machine.specs.declared.pass.FreeStage.TheVariants.{PutNextGeneration}
use Rattle.call_machine.specs.declared.pass.PassStage.{PassStage}
use Rattle.call_machine.specs.declared.pass.Waiting.{Waiting}
use Rattle.call_machine.specs.declared.sweep.Closing.{Closing}
use Rattle.call_machine.specs.declared.sweep.Closing.TheVariants as closing
use Rattle.call_machine.specs.declared.sweep.SweepAlong.{SweepAlong}
use Rattle.call_machine.specs.declared.sweep.SweepAsked.{SweepAsked}
use Rattle.call_machine.specs.declared.sweep.SweepStage.{SweepStage}
use Rattle.call_machine.specs.declared.sweep.SweepStage.TheVariants.{Check, Find, Lock, Close, Pass, UnlockHead, Grace, Free, Answered}
use Rattle.call_machine.specs.declared.sweep.Sweeping.{Sweeping}
use Rattle.call_machine.specs.Find.{find_row}
use Rattle.call_machine.specs.Grace.{grace_row}
use Rattle.call_machine.specs.Lock.{lock_row}
use Rattle.call_machine.specs.Pass.{no_cleaning, begins_pass, passes_on, pass_row, free_row}

-- the head is looked for from the opening of the section on, unless the counter has reached 2^48
abbrev pub finds_anew : SweepStage
finds_anew = Find (Enter LoadCounter)

abbrev pub checked : ℕ → SweepStage
checked counter = if nat_le (2 ^ 48) counter then Answered (answer.Spent counter) else finds_anew

-- the head is still looked for, or it is found
abbrev pub finds_on : ℕ → Option FindStage → SweepStage
finds_on head (Some s) = Find s
finds_on head None = if is_locked head then Close closing.Again else Lock

-- the bucket is locked, with this first node, or another has its lock
abbrev pub locks_on : SweepAlong → Locking → SweepAlong × SweepStage
locks_on w (locking.Locked first) = (record w { cleaning = begins_pass (no_cleaning w.walk.row w.walk.bucket) first }, Close closing.Clean)
locks_on w _ = (w, Close closing.Again)

-- at the next node of the locked bucket, or at its end
abbrev pub cleans_on : Option PassStage → SweepStage
cleans_on None = UnlockHead
cleans_on (Some s) = Pass s

abbrev pub closed : Cleaning → Closing → SweepStage
closed c closing.Again = finds_anew
closed c closing.Clean = cleans_on (passes_on c.first)

-- a sweep tells how many slots it unlinked; 2^32 - 1 stays
abbrev pub swept : Cleaning → SweepStage
swept c = Answered (answer.Swept (min c.unlinked 4294967295))

abbrev pub unlocked : Cleaning → List Waiting → SweepStage
unlocked c [] = swept c
unlocked c (x ∷ xs) = Grace RaiseCounter

-- a section that is waited for is looked at again
abbrev pub graces_on : Gracing → SweepStage
graces_on gracing.Over = Free (PutNextGeneration 0)
graces_on _ = Grace LoadSection

abbrev pub frees_on : Cleaning → Option FreeStage → SweepStage
frees_on c (Some s) = Free s
frees_on c None = swept c

-- what each stage does
abbrev pub sweep_turn : SweepAsked → SweepAlong → SweepStage → Turn (SweepAlong × SweepStage)
sweep_turn q w (Answered a) = turn.Answered a
sweep_turn q w Check = Makes (row step.LoadCounter (λ word. (w, checked word)))
sweep_turn q w (Find s) = Makes (map_row (λ at. (record w { walk = at.0 }, finds_on at.0.head at.1)) (find_row q.caller.number q.hash w.walk s))
sweep_turn q w Lock = Makes (map_row (locks_on w) (lock_row w.walk.row w.walk.bucket (LockHead w.walk.head)))
sweep_turn q w (Close why) = Makes (row (step.CloseSection q.caller.number) (λ word. (w, closed w.cleaning why)))
sweep_turn q w (Pass s) = Makes (map_row (λ came. (record w { cleaning = came.0 }, cleans_on came.1)) (pass_row w.cleaning s))
sweep_turn q w UnlockHead = Makes (row (step.UnlockHead w.cleaning.row w.cleaning.bucket w.cleaning.first) (λ word. (w, unlocked w.cleaning w.cleaning.waiting.items)))
sweep_turn q w (Grace s) = Makes (map_row (λ came. (record w { grace = came.0 }, graces_on came.1)) (grace_row q.caller.shape.seats w.grace s))
sweep_turn q w (Free s) = Makes (map_row (λ came. (record w { cleaning = came.0 }, frees_on came.0 came.1)) (free_row w.cleaning s))

-- what comes next, and what comes of the word that the step finds
abbrev pub plan_at : SweepAsked → SweepAlong → SweepStage → Plan
plan_at q w s = plan_in (sweep_turn q w s)

abbrev pub next_at : SweepAsked → SweepAlong → SweepStage → ℕ → SweepAlong × SweepStage
next_at q w s word = next_in (w, s) (sweep_turn q w s) word

-- the same of a sweep, and the event of its step
abbrev pub sweep_plan : Sweeping → Plan
sweep_plan s = plan_at s.asked s.along s.stage

abbrev pub goes_to : SweepAsked → SweepAlong × SweepStage → Sweeping
goes_to q at = record { asked = q; along = at.0; stage = at.1 }

abbrev pub sweep_got : Sweeping → ℕ → Sweeping
sweep_got s word = goes_to s.asked (next_at s.asked s.along s.stage word)

abbrev pub sweep_event : Sweeping → ℕ → Option What
sweep_event s word = event_by [] (sweep_plan s) word

-- a sweep at its first stage
abbrev pub begun_sweep : Caller → ℕ → Sweeping
begun_sweep caller hash = record {
  asked = record { caller = caller; hash = hash };
  along = record { walk = record { row = 0; bucket = 0; head = 0; passed = 0 }; cleaning = no_cleaning caller.shape.min_level 0; grace = record { raised = 0; next = 0 } };
  stage = Check;
}
