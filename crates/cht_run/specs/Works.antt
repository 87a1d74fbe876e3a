-- How calls end that are to begin a work, and polls of a work.
use Rattle.std.specs.Prelude.{◌≡◌, ◌≢◌, ℕ, List, [], ◌∷◌, Option, None, Some}
use Rattle.table_shape.specs.declared.shape.Shape.{Shape}
use Rattle.intern_log.specs.declared.event.Event.{Event}
use Rattle.intern_log.specs.declared.event.What.{What}
use Rattle.intern_log.specs.declared.event.What.TheVariants as what
use Rattle.atomic_step.specs.declared.answer.Answer.{Answer}
use Rattle.atomic_step.specs.declared.answer.Answer.TheVariants as answer
use Rattle.atomic_step.specs.declared.answer.Worked.{Worked}
use Rattle.atomic_step.specs.Run.{AreFitting, after_words, events_of_words}
use Rattle.call_machine.specs.declared.begin.Left.{Left}
use Rattle.call_machine.specs.declared.begin.Left.TheVariants as left
use Rattle.call_machine.specs.declared.begin.Task.{Task}
use Rattle.call_machine.specs.declared.begin.Task.TheVariants as task
use Rattle.call_machine.specs.declared.call.Call.{Call}
use Rattle.call_machine.specs.declared.call.Call.TheVariants as call
use Rattle.call_machine.specs.declared.resize.Direction.TheVariants.{Grow, Shrink}
use Rattle.call_machine.specs.declared.work.Work.{Work as Working}
use Rattle.call_machine.specs.declared.work.Work.TheVariants as work
use Rattle.call_machine.specs.Poll.{works}
use Rattle.call_machine.specs.Work.{begun_work, resumes, IsSoundWork}
use Rattle.cht_core.specs.declared.table.Table.{Table}
use Rattle.cht_core.specs.Graces.{WorkedWithFew}
use Rattle.cht_core.specs.Passes.{HasCleaned}
use Rattle.cht_core.specs.Causes.{IsSpent, IsBusy, IsAtLevel, PollEnds}
use Rattle.cht_core.specs.Windows.{Somewhere}
use Rattle.cht_run.specs.declared.seat.Seat.{Seat}
use Rattle.cht_run.specs.declared.works.BeganClean.{BeganClean}
use Rattle.cht_run.specs.declared.works.BeganClean.TheVariants as clean
use Rattle.cht_run.specs.declared.works.BeganGrow.{BeganGrow}
use Rattle.cht_run.specs.declared.works.BeganGrow.TheVariants as grow
use Rattle.cht_run.specs.declared.works.BeganShrink.{BeganShrink}
use Rattle.cht_run.specs.declared.works.BeganShrink.TheVariants as shrink
use Rattle.cht_run.specs.declared.works.Polled.{Polled}
use Rattle.cht_run.specs.declared.works.Polled.TheVariants as polled
use Rattle.cht_run.specs.declared.works.Tried.{Tried}
use Rattle.cht_run.specs.declared.works.Tried.TheVariants as tried
use Rattle.cht_run.specs.declared.work.Work.{Work}
use Rattle.cht_run.specs.Ended.{Ended, Only}
use Rattle.cht_run.specs.Ends.{HasNothing}
use Rattle.cht_run.specs.FullPasses.{RunsWithFew}
use Rattle.cht_run.specs.Graces.{IsUnspent}
use Rattle.cht_run.specs.Seats.{sight, seen, work_of, grace_of}
use Rattle.cht_run.specs.Unlinks.{HasFreed, HasNoLock}

-- the seat has this work unfinished
pub record IsWorkOf (work : Work) (state : Working) (seat : Seat) : Type 0 where
  pub unfinished : work_of seat ≡ Some state
  pub no_grace : grace_of seat ≡ None
  pub is : work.state ≡ state
  pub sound : IsSoundWork (sight seat).origin.table.shape state

-- it has just begun it
abbrev pub HasBegun : Table → Left → Work → Seat → Type 0
HasBegun t l work seat = (state : Working) × (begun_work t.shape l ≡ Some state) × IsWorkOf work state seat

-- why nothing begins: another seat has the resize lock
abbrev pub IsRefused : Table → ℕ → List Event → List Event → Type 0
IsRefused t i seen window = IsUnspent t seen window × Somewhere (IsBusy t i) seen window

-- the level was this under the resize lock
abbrev pub WasLevel : Table → ℕ → List Event → List Event → Type 0
WasLevel t level seen window = IsUnspent t seen window × Somewhere (IsAtLevel t level) seen window

-- how a call ends that is to begin a clean, a grow or a shrink
abbrev pub BeginsClean : Table → Seat → Seat → BeganClean → Type 0
BeginsClean t old new (clean.Spent counter) = HasNothing new × Ended t old new (Only []) (λ seen window. IsSpent t seen window counter)
BeginsClean t old new clean.Busy = HasNothing new × Ended t old new (Only []) (λ seen window. IsRefused t old.number seen window)
BeginsClean t old new (clean.Begun work) = HasBegun t left.Clean work new × Ended t old new (Only (what.ResizeTaken ∷ [])) (λ seen window. IsUnspent t seen window)

abbrev pub BeginsGrow : Table → Seat → Seat → BeganGrow → Type 0
BeginsGrow t old new (grow.Spent counter) = HasNothing new × Ended t old new (Only []) (λ seen window. IsSpent t seen window counter)
BeginsGrow t old new grow.Busy = HasNothing new × Ended t old new (Only []) (λ seen window. IsRefused t old.number seen window)
BeginsGrow t old new (grow.AtMaximum level) =
    HasNothing new × (level ≡ t.shape.max_level) × Ended t old new (Only (what.ResizeTaken ∷ what.ResizeGiven ∷ [])) (λ seen window. WasLevel t level seen window)
BeginsGrow t old new (grow.Begun work) =
    (level : ℕ) × HasBegun t (left.Resize Grow level) work new × (level ≢ t.shape.max_level) × Ended t old new (Only (what.ResizeTaken ∷ [])) (λ seen window. WasLevel t level seen window)

abbrev pub BeginsShrink : Table → Seat → Seat → BeganShrink → Type 0
BeginsShrink t old new (shrink.Spent counter) = HasNothing new × Ended t old new (Only []) (λ seen window. IsSpent t seen window counter)
BeginsShrink t old new shrink.Busy = HasNothing new × Ended t old new (Only []) (λ seen window. IsRefused t old.number seen window)
BeginsShrink t old new (shrink.AtMinimum level) =
    HasNothing new × (level ≡ t.shape.min_level) × Ended t old new (Only (what.ResizeTaken ∷ what.ResizeGiven ∷ [])) (λ seen window. WasLevel t level seen window)
BeginsShrink t old new (shrink.Begun work) =
    (level : ℕ) × HasBegun t (left.Resize Shrink level) work new × (level ≢ t.shape.min_level) × Ended t old new (Only (what.ResizeTaken ∷ [])) (λ seen window. WasLevel t level seen window)

-- the same of any of the three: its call, its bound, what it leaves, and what was so as it began
abbrev pub begin_call : Task → Call
begin_call task.Clean = call.BeginClean
begin_call task.Grow = call.BeginGrow
begin_call task.Shrink = call.BeginShrink

abbrev pub IsBound : Table → Task → ℕ → Type 0
IsBound t task.Clean level = ⊥
IsBound t task.Grow level = level ≡ t.shape.max_level
IsBound t task.Shrink level = level ≡ t.shape.min_level

abbrev pub left_by : Task → ℕ → Left
left_by task.Clean level = left.Clean
left_by task.Grow level = left.Resize Grow level
left_by task.Shrink level = left.Resize Shrink level

abbrev pub WasSo : Table → Task → ℕ → List Event → List Event → Type 0
WasSo t task.Clean level seen window = IsUnspent t seen window
WasSo t task.Grow level seen window = WasLevel t level seen window
WasSo t task.Shrink level seen window = WasLevel t level seen window

abbrev pub BeginsWork : Table → Task → Seat → Seat → Tried → Type 0
BeginsWork t x old new (tried.Spent counter) = HasNothing new × Ended t old new (Only []) (λ seen window. IsSpent t seen window counter)
BeginsWork t x old new tried.Busy = HasNothing new × Ended t old new (Only []) (λ seen window. IsRefused t old.number seen window)
BeginsWork t x old new (tried.AtBound level) = HasNothing new × IsBound t x level × Ended t old new (Only (what.ResizeTaken ∷ what.ResizeGiven ∷ [])) (λ seen window. WasLevel t level seen window)
BeginsWork t x old new (tried.Begun work) =
    (level : ℕ) × HasBegun t (left_by x level) work new × ¬ (IsBound t x level) × Ended t old new (Only (what.ResizeTaken ∷ [])) (λ seen window. WasSo t x level seen window)

-- polls of a work, one after another, have led it from a state to another one, and these are their events
pub record Runs (shape : Shape) (from : Working) (did : List What) (to : Working × Option Answer) : Type 0 where
  pub words : List ℕ
  pub fitting : AreFitting (works shape) (resumes from) words
  pub leads : after_words (works shape) (resumes from) words ≡ to
  pub made : events_of_words (works shape) (resumes from) words ≡ did
  -- and a clean has made few full passes over one bucket
  pub few : RunsWithFew shape from words

-- a clean that is done has unlinked what was dead where its seat took the resize lock, and before, and has freed what it unlinked; and a grow has had at most
-- one grace more than there are Creates. The seat has no bucket locked
abbrev pub HasFinished : Table → Working → Worked → Seat → Type 0
HasFinished t (work.Clean c) worked seat = HasNoLock t (seen seat) seat.number × HasCleaned t.shape.min_level (seen seat) seat.number × HasFreed t (seen seat) seat.number
HasFinished t (work.Resize r) worked seat = HasNoLock t (seen seat) seat.number × WorkedWithFew (seen seat) r.direction worked

-- the work is done, with these events; or it is to be polled again
abbrev pub IsDone : Table → Working → List What → Worked → Seat → Type 0
IsDone t state did worked seat = (last : Working) × Runs t.shape state did (last, Some (answer.Done worked)) × HasFinished t last worked seat

abbrev pub IsLeft : Table → Working → List What → Work → Seat → Type 0
IsLeft t state did work seat = (left : Working) × IsWorkOf work left seat × Runs t.shape state did (resumes left)

-- a poll leaves its work unfinished, and this is why
abbrev pub Leaves : Table → Working → Seat → Seat → Work → Answer → Type 0
Leaves t state old new work a = (did : List What) × (of : IsLeft t state did work new) × Ended t old new (Only did) (λ seen window. PollEnds t old.number seen window of.0 a)

-- how the poll of a work ends: it is done, or it waits for a seat or for a bucket
abbrev pub PollsWork : Table → Working → Seat → Seat → Polled → Type 0
PollsWork t state old new (polled.Done worked) = HasNothing new × ((did : List What) × IsDone t state did worked new × Ended t old new (Only did) (λ seen window. Unit {0}))
PollsWork t state old new (polled.PendingSeat work number) = Leaves t state old new work (answer.PendingSeat number)
PollsWork t state old new (polled.PendingBucket work row bucket) = Leaves t state old new work (answer.PendingBucket row bucket)
