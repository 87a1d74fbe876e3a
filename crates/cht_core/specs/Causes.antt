-- What a call has found out of its window so far, and why it answers as it does.
use Rattle.std.specs.Prelude.{◌≡◌, ◌≢◌, ℕ, ◌+◌, ◌*◌, ◌^◌, ◌<◌, ◌≤◌, ◌⊎◌, List, [], length, Option, Some, None}
use Rattle.std.specs.List.{filter}
use Rattle.intern_log.specs.declared.event.Event.{Event}
use Rattle.intern_log.specs.declared.event.What.{What}
use Rattle.intern_log.specs.CauseEvents.{IsCreateOn, IsCreateUnlinkOrLockOn}
use Rattle.intern_log.specs.Now.{Now, OpenSection, owner_of, now_of}
use Rattle.intern_log.specs.Own.{is_visible}
use Rattle.intern_log.specs.SlotBuckets.{slot_bucket}
use Rattle.atomic_step.specs.declared.answer.Answer.{Answer}
use Rattle.atomic_step.specs.declared.answer.Answer.TheVariants as answer
use Rattle.atomic_step.specs.declared.plan.Plan.{Plan}
use Rattle.atomic_step.specs.declared.plan.Plan.TheVariants as plan
use Rattle.call_machine.specs.declared.begin.BeginStage.{BeginStage}
use Rattle.call_machine.specs.declared.begin.BeginStage.TheVariants as begin
use Rattle.call_machine.specs.declared.begin.Left.{Left}
use Rattle.call_machine.specs.declared.begin.Left.TheVariants as left
use Rattle.call_machine.specs.declared.clean.CleanAlong.{CleanAlong}
use Rattle.call_machine.specs.declared.clean.CleanStage.{CleanStage}
use Rattle.call_machine.specs.declared.clean.CleanStage.TheVariants as clean
use Rattle.call_machine.specs.declared.lock.LockStage.TheVariants as lock
use Rattle.call_machine.specs.declared.pass.Cleaning.{Cleaning}
use Rattle.call_machine.specs.declared.pass.PassStage.TheVariants as pass
use Rattle.call_machine.specs.declared.resize.Direction.{Direction}
use Rattle.call_machine.specs.declared.resize.ResizeAlong.{ResizeAlong}
use Rattle.call_machine.specs.declared.resize.ResizeStage.{ResizeStage}
use Rattle.call_machine.specs.declared.resize.ResizeStage.TheVariants as resize
use Rattle.call_machine.specs.declared.sweep.SweepStage.{SweepStage}
use Rattle.call_machine.specs.declared.sweep.SweepStage.TheVariants as sweep
use Rattle.cht_core.specs.declared.table.Table.{Table}
use Rattle.call_machine.specs.declared.work.Work.{Work}
use Rattle.call_machine.specs.declared.work.Work.TheVariants as work
use Rattle.call_machine.specs.Resize.{bucket_at}
use Rattle.cht_core.specs.Flow.{Flow, IsUsed}
use Rattle.cht_core.specs.Past.{Past}
use Rattle.cht_core.specs.TableState.{IsSettled}
use Rattle.cht_core.specs.Windows.{Somewhere, Another, AnotherSince, whats_by}
use Rattle.cht_core.specs.Unlinks.{unlinks_by, is_given}
use Rattle.cht_core.specs.View.{load_after}
use Rattle.cht_core.specs.WordSays.{WordSays}

-- what a log of a table says at its end
abbrev pub now_in : Table → List Event → Now
now_in t log = now_of t.shape.min_level log

-- what a word says that is found by the next step of a plan
abbrev pub PlanSays : Table → Past → Flow → Plan → ℕ → Type 0
PlanSays t p f (plan.Step s) word = WordSays t p f s word
PlanSays t p f (plan.Answered a) word = Unit {0}

-- the seat has no event that callers see
abbrev pub IsUnseen : ℕ → List Event → Type 0
IsUnseen i window = filter is_visible (whats_by i window) ≡ []

-- SPENT, BUSY, PENDING SEATS

-- the counter was this, and is too great for a new work, grace or sweep
abbrev pub IsSpent : Table → List Event → List Event → ℕ → Type 0
IsSpent t seen window counter = Somewhere (λ log. counter ≡ t.first_counter + 2 * (now_in t log).graces) seen window × (2 ^ 48 ≤ counter)

-- another seat has the resize lock
abbrev pub IsBusy : Table → ℕ → List Event → Type 0
IsBusy t i log = (k : ℕ) × (owner_of (now_in t log).resizing ≡ Some k) × (k ≢ i)

-- the section of a number is open, and the counter of its Open is below a value
abbrev pub IsOpenBelow : Table → ℕ → ℕ → List Event → Type 0
IsOpenBelow t number raised log = (o : OpenSection) × ((now_in t log).section number ≡ Some o) × (o.counter < raised)

-- BEGINNINGS AND SWEEPS

-- the level is this
abbrev pub IsAtLevel : Table → ℕ → List Event → Type 0
IsAtLevel t level log = level ≡ (now_in t log).level

-- why a call that begins a work or a grace, or polls a grace, answers so
abbrev pub BeginEnds : Table → ℕ → List Event → List Event → Answer → Left → Type 0
BeginEnds t i seen window (answer.Spent counter) l = IsSpent t seen window counter
BeginEnds t i seen window answer.Busy l = Somewhere (IsBusy t i) seen window
BeginEnds t i seen window (answer.AtMaximum level) l = Somewhere (IsAtLevel t level) seen window × (level ≡ t.shape.max_level)
BeginEnds t i seen window (answer.AtMinimum level) l = Somewhere (IsAtLevel t level) seen window × (level ≡ t.shape.min_level)
BeginEnds t i seen window (answer.PendingSeat number) (left.Grace g) = Somewhere (IsOpenBelow t number g.raised) seen window
BeginEnds t i seen window (answer.PendingSeat number) _ = ⊥
BeginEnds t i seen window _ l = Unit {0}

-- the same before it answers: where it is about to give the resize lock back it has its answer
abbrev pub BeginCaused : Table → ℕ → List Event → List Event → BeginStage → Type 0
BeginCaused t i seen window (begin.Answered a l) = BeginEnds t i seen window a l
BeginCaused t i seen window (begin.GiveResizeLock a) = BeginEnds t i seen window a left.Nothing
BeginCaused t i seen window _ = Unit {0}

-- what the seat knows of itself as it finds a word: it has not the resize lock where it goes for it
abbrev pub BeginHears : Past → ℕ → BeginStage → Type 0
BeginHears p i (begin.TakeResizeLock work) = ¬ (owner_of p.now.resizing ≡ Some i)
BeginHears p i _ = Unit {0}

-- why a sweep answers so
abbrev pub SweepCaused : Table → List Event → List Event → SweepStage → Type 0
SweepCaused t seen window (sweep.Answered (answer.Spent counter)) = IsSpent t seen window counter
SweepCaused t seen window _ = Unit {0}

-- HEADS

-- callers may come to a row: it is that of the level, or the next one while a row is being replaced
abbrev pub IsRowOf : Now → ℕ → Type 0
IsRowOf n row = (row ≡ n.level) ⊎ (¬ (IsSettled n) × ((row ≡ n.level + 1) ⊎ (n.level ≡ row + 1)))

abbrev pub IsRowIn : Table → ℕ → List Event → Type 0
IsRowIn t row log = IsRowOf (now_in t log) row

-- another seat has the bucket locked
abbrev pub IsLockedByOther : Table → ℕ → ℕ → ℕ → List Event → Type 0
IsLockedByOther t i row bucket log = (k : ℕ) × ((now_in t log).lock row bucket ≡ Some k) × (k ≢ i)

-- the event is a Create, an Unlink or a Lock on the bucket
abbrev pub IsOnBucket : Table → ℕ → ℕ → List Event → What → Type 0
IsOnBucket t row bucket log e = IsCreateUnlinkOrLockOn (now_in t log) row bucket e

-- the event is a Create on the bucket
abbrev pub IsCreateAt : Table → ℕ → ℕ → List Event → What → Type 0
IsCreateAt t row bucket log e = IsCreateOn (now_in t log) row bucket e

-- the word of a head is still the one that was loaded at a place, or since then another seat had an event on the bucket
abbrev pub HeadSays : Table → ℕ → ℕ → ℕ → ℕ → ℕ → List Event → ℕ → Type 0
HeadSays t i row bucket load head log word = (word ≡ head) ⊎ AnotherSince i (IsOnBucket t row bucket) load log

-- the place of the last load of a head, after the next step of a plan
abbrev pub loaded_at : Plan → ℕ → ℕ → ℕ
loaded_at (plan.Step s) now load = load_after s now load
loaded_at (plan.Answered a) now load = load

-- POLLS OF A WORK

-- why a poll of a work answers so, by the value to which its last grace raised the counter: the section is open with a counter below that
-- value, or that is too great for a further grace; the bucket is locked by another seat, or had an event of another seat
abbrev pub WorkEnds : Table → ℕ → List Event → List Event → ℕ → Answer → Type 0
WorkEnds t i seen window raised (answer.PendingSeat number) = Somewhere (IsOpenBelow t number raised) seen window ⊎ ((number ≡ 0) × (2 ^ 63 ≤ raised))
WorkEnds t i seen window raised (answer.PendingBucket row bucket) = Somewhere (IsLockedByOther t i row bucket) seen window ⊎ Another i (IsOnBucket t row bucket) seen window
WorkEnds t i seen window raised _ = Unit {0}

abbrev pub PollEnds : Table → ℕ → List Event → List Event → Work → Answer → Type 0
PollEnds t i seen window (work.Clean c) a = WorkEnds t i seen window c.along.grace.raised a
PollEnds t i seen window (work.Resize r) a = WorkEnds t i seen window r.along.grace.raised a

-- POLLS OF A CLEAN

-- the seat had the resize lock as the window began, and has not given it back in it
abbrev pub KeepsResizeLock : Table → ℕ → List Event → List Event → Type 0
KeepsResizeLock t i seen window = (owner_of (now_in t seen).resizing ≡ Some i) × (filter is_given (whats_by i window) ≡ [])

-- how many slots of a bucket the seat unlinked in the window
abbrev pub own_unlinks : Table → ℕ → ℕ → ℕ → List Event → List Event → ℕ
own_unlinks t i row bucket seen window = unlinks_by t i row bucket (now_in t seen) window

-- how many slots that wait the pass under way has unlinked
abbrev pub in_pass : Cleaning → CleanStage → ℕ
in_pass c (clean.Pass s) = c.pass_waiting
in_pass c clean.UnlockHead = c.pass_waiting
in_pass c _ = 0

-- in the window the seat unlinked 256 slots of the bucket for each full pass over it, and so many beside them
abbrev pub HasMade : Table → ℕ → List Event → List Event → CleanAlong → ℕ → Type 0
HasMade t i seen window w beside = 256 * w.full_passes + beside ≤ own_unlinks t i w.cleaning.row w.cleaning.bucket seen window

-- beside its full passes it is the pass under way that unlinked; a clean that has no row yet has made no pass
abbrev pub HasUnlinked : Table → ℕ → List Event → List Event → CleanAlong → CleanStage → Type 0
HasUnlinked t i seen window w clean.LoadLevel = w.full_passes ≡ 0
HasUnlinked t i seen window w s = HasMade t i seen window w (in_pass w.cleaning s)

-- the head that is about to be locked was loaded within the window
abbrev pub HeadLoaded : List Event → ℕ → CleanStage → Type 0
HeadLoaded seen load (clean.Lock (lock.LockHead head)) = length seen ≤ load
HeadLoaded seen load _ = Unit {0}

-- what a poll of a clean has found out, and why it answers
abbrev pub CleanCaused : Table → ℕ → List Event → List Event → ℕ → CleanAlong → CleanStage → Option Answer → Type 0
CleanCaused t i seen window load w s (Some a) = WorkEnds t i seen window w.grace.raised a
CleanCaused t i seen window load w s None = KeepsResizeLock t i seen window × HasUnlinked t i seen window w s × HeadLoaded seen load s

-- POLLS OF A GROW OR A SHRINK

-- the head that is about to be locked was loaded within the window
abbrev pub OldHeadLoaded : List Event → ℕ → ResizeStage → Type 0
OldHeadLoaded seen load (resize.Lock side (lock.LockHead head)) = length seen ≤ load
OldHeadLoaded seen load _ = Unit {0}

-- what a poll of a resize has found out, and why it answers
abbrev pub ResizeCaused : Table → ℕ → List Event → List Event → ℕ → ResizeAlong → ResizeStage → Option Answer → Type 0
ResizeCaused t i seen window load w s (Some a) = WorkEnds t i seen window w.grace.raised a
ResizeCaused t i seen window load w s None = OldHeadLoaded seen load s

-- POLLS OF ANY WORK

abbrev pub PollCaused : Table → ℕ → List Event → List Event → ℕ → Work → Option Answer → Type 0
PollCaused t i seen window load (work.Clean c) a = CleanCaused t i seen window load c.along c.stage a
PollCaused t i seen window load (work.Resize r) a = ResizeCaused t i seen window load r.along r.stage a

-- what the seat knows as it finds a word: it has not locked the bucket that it is about to lock, to which callers come; and the slot that it
-- unlinks is in that bucket
abbrev pub CleanHears : Table → Past → Flow → ℕ → ℕ → List Event → CleanAlong → CleanStage → ℕ → Type 0
CleanHears t p f i load log w (clean.Lock lock.LoadHead) word = IsUsed p.now f w.cleaning.row w.cleaning.bucket × ¬ (p.now.lock w.cleaning.row w.cleaning.bucket ≡ Some i)
CleanHears t p f i load log w (clean.Lock (lock.LockHead head)) word = HeadSays t i w.cleaning.row w.cleaning.bucket load head log word
CleanHears t p f i load log w (clean.Pass (pass.Unlink s g next)) word = slot_bucket p.now w.cleaning.row s ≡ Some w.cleaning.bucket
CleanHears t p f i load log w _ word = Unit {0}

-- a resize has not locked the bucket that it is about to lock, to which callers come
abbrev pub ResizeHears : Table → Past → Flow → ℕ → ℕ → List Event → Direction → ResizeAlong → ResizeStage → ℕ → Type 0
ResizeHears t p f i load log d w (resize.Lock side lock.LoadHead) word = IsUsed p.now f w.level (bucket_at d w side) × ¬ (p.now.lock w.level (bucket_at d w side) ≡ Some i)
ResizeHears t p f i load log d w (resize.Lock side (lock.LockHead head)) word = HeadSays t i w.level (bucket_at d w side) load head log word
ResizeHears t p f i load log d w _ word = Unit {0}

abbrev pub PollHears : Table → Past → Flow → ℕ → ℕ → List Event → Work → Option Answer → ℕ → Type 0
PollHears t p f i load log (work.Clean c) None word = CleanHears t p f i load log c.along c.stage word
PollHears t p f i load log (work.Resize r) None word = ResizeHears t p f i load log r.direction r.along r.stage word
PollHears t p f i load log _ _ word = Unit {0}

-- between its polls a clean has no bucket locked, and is not about to exchange a head
abbrev pub IsRestingAt : CleanStage → Type 0
IsRestingAt (clean.Lock (lock.LockHead head)) = ⊥
IsRestingAt (clean.Pass s) = ⊥
IsRestingAt clean.UnlockHead = ⊥
IsRestingAt _ = Unit {0}

-- and a resize is not about to exchange a head to lock it
abbrev pub IsAwayAt : ResizeStage → Type 0
IsAwayAt (resize.Lock side (lock.LockHead head)) = ⊥
IsAwayAt _ = Unit {0}

abbrev pub IsResting : Work → Type 0
IsResting (work.Clean c) = IsRestingAt c.stage
IsResting (work.Resize r) = IsAwayAt r.stage

-- a poll that has answered rests
abbrev pub RestsAt : CleanStage → Option Answer → Type 0
RestsAt s None = Unit {0}
RestsAt s (Some a) = IsRestingAt s

abbrev pub AwayAt : ResizeStage → Option Answer → Type 0
AwayAt s None = Unit {0}
AwayAt s (Some a) = IsAwayAt s

abbrev pub Rests : Work → Option Answer → Type 0
Rests (work.Clean c) a = RestsAt c.stage a
Rests (work.Resize r) a = AwayAt r.stage a
