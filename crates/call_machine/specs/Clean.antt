-- Cleaning a table: bucket after bucket is locked, its dead nodes are unlinked, and after a grace their slots are freed.
use Rattle.std.specs.Prelude.{ℕ, ◌+◌, ◌/◌, ◌^◌, ◌==◌, min, nat_lt, if◌then◌else◌, List, [], ◌∷◌, length, Option, Some, None}
use Rattle.table_shape.specs.declared.shape.Shape.{Shape}
use Rattle.atomic_step.specs.declared.answer.Answer.{Answer}
use Rattle.atomic_step.specs.declared.answer.Answer.TheVariants as answer
use Rattle.atomic_step.specs.declared.answer.Worked.{Worked}
use Rattle.atomic_step.specs.declared.step.Step.TheVariants as step
use Rattle.atomic_step.specs.Turn.{Row, row, map_row}
use Rattle.call_machine.specs.declared.clean.CleanAlong.{CleanAlong}
use Rattle.call_machine.specs.declared.clean.CleanStage.{CleanStage}
use Rattle.call_machine.specs.declared.clean.CleanStage.TheVariants.{LoadLevel, Lock, Pass, UnlockHead, Grace, Free, GiveResizeLock}
use Rattle.call_machine.specs.declared.clean.Freeing.{Freeing}
use Rattle.call_machine.specs.declared.clean.Freeing.TheVariants.{Again, Last}
use Rattle.call_machine.specs.declared.grace.GraceStage.TheVariants.{RaiseCounter, LoadSection}
use Rattle.call_machine.specs.declared.grace.Gracing.{Gracing}
use Rattle.call_machine.specs.declared.grace.Gracing.TheVariants as gracing
use Rattle.call_machine.specs.declared.lock.LockStage.TheVariants.{LoadHead}
use Rattle.call_machine.specs.declared.lock.Locking.{Locking}
use Rattle.call_machine.specs.declared.lock.Locking.TheVariants as locking
use Rattle.call_machine.specs.declared.pass.FreeStage.{FreeStage}
use Rattle.call_machine.specs.declared.pass.FreeStage.TheVariants.{PutNextGeneration}
use Rattle.call_machine.specs.declared.pass.PassStage.{PassStage}
use Rattle.call_machine.specs.declared.pass.Waiting.{Waiting}
use Rattle.call_machine.specs.Grace.{grace_row, held_back, counts_grace}
use Rattle.call_machine.specs.Lock.{lock_row}
use Rattle.call_machine.specs.Pass.{no_cleaning, begins_pass, passes_on, pass_row, free_row}

-- a clean that begins; the level is loaded first
abbrev pub begun_clean : ℕ → CleanAlong
begun_clean level = record { cleaning = no_cleaning level 0; full_passes = 0; grace = record { raised = 0; next = 0 }; graces = 0 }

-- what came of a step: the next stage, and what the poll answers, if anything
abbrev pub Went : Type 0
Went = CleanAlong × CleanStage × Option Answer

abbrev pub goes : CleanAlong → CleanStage → Went
goes w s = (w, s, None)

-- the bucket is waited for
abbrev pub waits_at : CleanAlong → Went
waits_at w = (w, Lock LoadHead, Some (answer.PendingBucket w.cleaning.row w.cleaning.bucket))

-- a grace comes next, if one may begin
abbrev pub raises : CleanAlong → Freeing → Went
raises w freeing = (w, Grace freeing RaiseCounter, held_back w.grace.raised)

-- a poll counts its full passes anew, and answers without a step where no grace is begun
abbrev pub resumed : CleanAlong → CleanStage → Option Answer
resumed w (Grace freeing RaiseCounter) = held_back w.grace.raised
resumed w _ = None

abbrev pub begins_poll : CleanAlong → CleanStage → Went
begins_poll w s = (record w { full_passes = 0 }, s, resumed w s)

-- at the next node of the locked bucket, or at its end
abbrev pub cleans_on : Option PassStage → CleanStage
cleans_on None = UnlockHead
cleans_on (Some s) = Pass s

abbrev pub locks_on : CleanAlong → Locking → Went
locks_on w (locking.Goes s) = goes w (Lock s)
locks_on w locking.Waits = waits_at w
locks_on w (locking.Locked first) = goes (record w { cleaning = begins_pass w.cleaning first }) (cleans_on (passes_on first))

-- a pass that unlinked 256 slots by itself counts; a count that has reached 2^32 - 1 stays
abbrev pub counts_pass : CleanAlong → CleanAlong
counts_pass w = if w.cleaning.pass_waiting == 256 then record w { full_passes = min (w.full_passes + 1) 4294967295 } else w

-- behind the last bucket the slots that wait are freed
abbrev pub ends : CleanAlong → List Waiting → Went
ends w [] = goes w GiveResizeLock
ends w (x ∷ xs) = raises w Last

-- where 256 slots wait they are freed, and the bucket is cleaned again; else the next bucket comes
abbrev pub next_bucket : CleanAlong → Went
next_bucket w =
    if length w.cleaning.waiting.items == 256 then raises (counts_pass w) Again
    else if nat_lt (w.cleaning.bucket + 1) (2 ^ w.cleaning.row) then goes (record w { cleaning = record w.cleaning { bucket = w.cleaning.bucket + 1 }; full_passes = 0 }) (Lock LoadHead)
    else ends w w.cleaning.waiting.items

-- what came of a step of a grace
abbrev pub graces_on : CleanAlong → Freeing → Gracing → Went
graces_on w freeing gracing.Goes = goes w (Grace freeing LoadSection)
graces_on w freeing gracing.Waits = (w, Grace freeing LoadSection, Some (answer.PendingSeat w.grace.next))
graces_on w freeing gracing.Over = goes w (Free freeing (PutNextGeneration 0))

-- all are free: the bucket is cleaned again, unless this poll has made `slots / 256 + 1` full passes over it
abbrev pub frees_on : Shape → CleanAlong → Freeing → Option FreeStage → Went
frees_on shape w freeing (Some s) = goes w (Free freeing s)
frees_on shape w Again None = if nat_lt (shape.slots / 256) w.full_passes then waits_at w else goes w (Lock LoadHead)
frees_on shape w Last None = goes w GiveResizeLock

-- what a finished clean did
abbrev pub worked : CleanAlong → Worked
worked w = record { unlinked = w.cleaning.unlinked; graces = w.graces; level = w.cleaning.row }

-- what comes at each stage
abbrev pub clean_row : Shape → CleanAlong → CleanStage → Row Went
clean_row shape w LoadLevel = row step.LoadLevel (λ word. goes (record w { cleaning = record w.cleaning { row = word } }) (Lock LoadHead))
clean_row shape w (Lock s) = map_row (locks_on w) (lock_row w.cleaning.row w.cleaning.bucket s)
clean_row shape w (Pass s) = map_row (λ came. goes (record w { cleaning = came.0 }) (cleans_on came.1)) (pass_row w.cleaning s)
clean_row shape w UnlockHead = row (step.UnlockHead w.cleaning.row w.cleaning.bucket w.cleaning.first) (λ word. next_bucket w)
clean_row shape w (Grace freeing s) = map_row (λ came. graces_on (record w { grace = came.0; graces = counts_grace s w.graces }) freeing came.1) (grace_row shape.seats w.grace s)
clean_row shape w (Free freeing s) = map_row (λ came. frees_on shape (record w { cleaning = came.0 }) freeing came.1) (free_row w.cleaning s)
clean_row shape w GiveResizeLock = row step.GiveResizeLock (λ word. (w, GiveResizeLock, Some (answer.Done (worked w))))
