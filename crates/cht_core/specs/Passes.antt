-- What a clean or a sweep has found of the buckets that it passes: how many nodes it has looked at, and that each entry which is linked
-- there still was live since it began.
use Rattle.std.specs.Prelude.{◌≡◌, ◌≢◌, ℕ, ◌+◌, ◌<◌, ◌≤◌, Bool, true, false, List, [], ◌∷◌, ◌++◌, All, length, Option, Some, None, IfSome}
use Rattle.chain_core.specs.Nodes.{On}
use Rattle.text_words.specs.Hash.{hash_of}
use Rattle.intern_log.specs.declared.event.Event.{Event}
use Rattle.intern_log.specs.declared.event.Handle.{Handle}
use Rattle.intern_log.specs.declared.event.What.{What}
use Rattle.intern_log.specs.declared.event.What.TheVariants as what
use Rattle.intern_log.specs.Log.{map_of}
use Rattle.intern_log.specs.Now.{Now, Linked, now_of}
use Rattle.intern_log.specs.TextMap.{IsLive}
use Rattle.atomic_step.specs.declared.answer.Answer.{Answer}
use Rattle.atomic_step.specs.declared.answer.Answer.TheVariants as answer
use Rattle.call_machine.specs.declared.clean.CleanStage.{CleanStage}
use Rattle.call_machine.specs.declared.clean.CleanStage.TheVariants as clean
use Rattle.call_machine.specs.declared.clean.Freeing.{Freeing}
use Rattle.call_machine.specs.declared.clean.Freeing.TheVariants as freeing
use Rattle.call_machine.specs.declared.machine.Machine.TheVariants as machine
use Rattle.call_machine.specs.declared.pass.Cleaning.{Cleaning}
use Rattle.call_machine.specs.declared.pass.PassStage.{PassStage}
use Rattle.call_machine.specs.declared.pass.PassStage.TheVariants as pass
use Rattle.call_machine.specs.declared.sweep.Closing.TheVariants as closing
use Rattle.call_machine.specs.declared.sweep.SweepStage.{SweepStage}
use Rattle.call_machine.specs.declared.sweep.SweepStage.TheVariants as sweep
use Rattle.call_machine.specs.declared.work.Work.{Work}
use Rattle.call_machine.specs.declared.work.Work.TheVariants as work
use Rattle.cht_core.specs.declared.seat.Seat.{Seat}
use Rattle.cht_core.specs.declared.seat.Seat.TheVariants as doing
use Rattle.cht_core.specs.declared.table.Table.{Table}
use Rattle.cht_core.specs.Bounds.{work_of}
use Rattle.cht_core.specs.Flow.{Flow}
use Rattle.cht_core.specs.Past.{by}
use Rattle.cht_core.specs.Stage.{bucket_in}
use Rattle.cht_core.specs.Windows.{WasSince}

-- THE LOG

-- the event takes the resize lock; or it locks a bucket
abbrev pub is_taken : What → Bool
is_taken what.ResizeTaken = true
is_taken _ = false

abbrev pub is_lock : What → Bool
is_lock (what.Lock row bucket) = true
is_lock _ = false

-- of the events of a seat that pass a test the last one is this, and it stands at this place
pub record IsLast (passes : What → Bool) (i : ℕ) (last : What) (log : List Event) (at : ℕ) : Type 0 where
  pub front : List Event
  pub back : List Event
  pub stands : log ≡ front ++ by i last ∷ back
  pub place : at ≡ length front
  pub none : All (λ (e : Event). e.seat ≡ i → passes e.what ≡ false) back

-- so it is of the place of that event
abbrev pub SinceLast : (What → Bool) → ℕ → What → List Event → (ℕ → Type 0) → Type 0
SinceLast passes i last log Holds = (at : ℕ) × IsLast passes i last log at × Holds at

-- from a place of the log on some text was live with this handle
abbrev pub WasLiveSince : ℕ → List Event → Handle → Type 0
WasLiveSince at log h = WasSince (λ front. IsLive (map_of front) h) at log

-- each of these slots that is linked was live from a place on; which they are is said of the slot and its text
abbrev pub WereLiveSince : Now → List Event → ℕ → (ℕ → List ℕ → Type 0) → Type 0
WereLiveSince n log at Which = (s : ℕ) (text : List ℕ) (h : Handle) (born : ℕ) → n.slot s ≡ Linked text h born → Which s text → WasLiveSince at log h

-- the slots of a bucket, those of all buckets below one, those on a list, and all
abbrev pub IsOfBucket : ℕ → ℕ → ℕ → ℕ → List ℕ → Type 0
IsOfBucket seed row bucket s text = bucket_in row (hash_of seed text) ≡ bucket

abbrev pub IsBelowBucket : ℕ → ℕ → ℕ → ℕ → List ℕ → Type 0
IsBelowBucket seed row bucket s text = bucket_in row (hash_of seed text) < bucket

abbrev pub IsOnList : List ℕ → ℕ → List ℕ → Type 0
IsOnList nodes s text = On s nodes

abbrev pub IsAny : ℕ → List ℕ → Type 0
IsAny s text = Unit {0}

-- A PASS

-- the pass is at a node of its chain: the nodes before it were live; with this one, if it is yet to be counted, and those behind it the
-- pass looks at no more nodes than the table has slots
pub record PassAt (t : Table) (n : Now) (log : List Event) (f : Flow) (at : ℕ) (c : Cleaning) (s uncounted : ℕ) : Type 0 where
  pub before : List ℕ
  pub behind : List ℕ
  pub chain : f.chain c.row c.bucket ≡ before ++ s ∷ behind
  pub live : WereLiveSince n log at (IsOnList before)
  pub few : c.passed + uncounted + length behind ≤ t.shape.slots

-- what a pass has found at each of its stages: a node whose count was loaded and that is to stay was live itself
abbrev pub PassFinds : Table → Now → List Event → Flow → ℕ → Cleaning → PassStage → Type 0
PassFinds t n log f at c (pass.LoadCount s) = PassAt t n log f at c s 1
PassFinds t n log f at c (pass.LoadLink s None) = PassAt t n log f at c s 0 × WereLiveSince n log at (IsOnList (s ∷ []))
PassFinds t n log f at c (pass.LoadLink s (Some g)) = PassAt t n log f at c s 0
PassFinds t n log f at c (pass.Unlink s g next) = PassAt t n log f at c s 0

-- A CLEAN

-- the buckets below the present one are done; and where no 256 slots wait the present one too
abbrev pub AreDone : Now → List Event → Cleaning → ℕ → Type 0
AreDone n log c at = WereLiveSince n log at (IsBelowBucket n.seed c.row c.bucket)

abbrev pub IsDoneToo : Now → List Event → Cleaning → ℕ → Type 0
IsDoneToo n log c at = AreDone n log c at × (length c.waiting.items ≢ 256 → WereLiveSince n log at (IsOfBucket n.seed c.row c.bucket))

-- before slots are freed so that a bucket is cleaned again those below it are done, and before the last ones are all are
abbrev pub FreesAfter : Now → List Event → Cleaning → Freeing → ℕ → Type 0
FreesAfter n log c freeing.Again at = AreDone n log c at
FreesAfter n log c freeing.Last at = WereLiveSince n log at IsAny

-- so it is since the seat last took the resize lock
abbrev pub SinceTaken : ℕ → List Event → (ℕ → Type 0) → Type 0
SinceTaken i log Holds = SinceLast is_taken i what.ResizeTaken log Holds

-- what a clean has found at each of its stages, since the seat took the resize lock
abbrev pub CleanFinds : Table → Now → List Event → Flow → ℕ → Cleaning → CleanStage → Type 0
CleanFinds t n log f i c clean.LoadLevel = Unit {0}
CleanFinds t n log f i c (clean.Lock s) = SinceTaken i log (AreDone n log c)
CleanFinds t n log f i c (clean.Pass s) = SinceTaken i log (λ at. AreDone n log c at × PassFinds t n log f at c s)
CleanFinds t n log f i c clean.UnlockHead = SinceTaken i log (IsDoneToo n log c)
CleanFinds t n log f i c (clean.Grace freeing s) = SinceTaken i log (FreesAfter n log c freeing)
CleanFinds t n log f i c (clean.Free freeing s) = SinceTaken i log (FreesAfter n log c freeing)
CleanFinds t n log f i c clean.GiveResizeLock = SinceTaken i log (λ at. WereLiveSince n log at IsAny)

-- the present pass has looked at no more nodes than the table has slots
abbrev pub LooksAtFew : Table → Cleaning → Type 0
LooksAtFew t c = c.passed ≤ t.shape.slots

-- what an unfinished work has found, if it is a clean
abbrev pub WorkFinds : Table → Now → List Event → Flow → ℕ → Work → Type 0
WorkFinds t n log f i (work.Clean c) = LooksAtFew t c.along.cleaning × CleanFinds t n log f i c.along.cleaning c.stage
WorkFinds t n log f i (work.Resize r) = Unit {0}

-- what a poll has answered
abbrev pub PollFinds : Table → Now → List Event → ℕ → Work → Option Answer → Type 0
PollFinds t n log i (work.Clean c) (Some (answer.Done did)) = LooksAtFew t c.along.cleaning × SinceTaken i log (λ at. WereLiveSince n log at IsAny)
PollFinds t n log i _ _ = Unit {0}

-- A SWEEP

-- so it is since the seat last locked a bucket, which was this one
abbrev pub SinceLocked : ℕ → Cleaning → List Event → (ℕ → Type 0) → Type 0
SinceLocked i c log Holds = SinceLast is_lock i (what.Lock c.row c.bucket) log Holds

-- where so few slots were unlinked the whole bucket was passed
abbrev pub SweepsAll : Now → List Event → ℕ → Cleaning → ℕ → Type 0
SweepsAll n log i c unlinked = SinceLocked i c log (λ at. unlinked < 256 → WereLiveSince n log at (IsOfBucket n.seed c.row c.bucket))

-- what a sweep has told
abbrev pub SweptAll : Now → List Event → ℕ → Cleaning → Answer → Type 0
SweptAll n log i c (answer.Swept unlinked) = SweepsAll n log i c unlinked
SweptAll n log i c _ = Unit {0}

-- what a sweep has found at each of its stages
abbrev pub SweepFinds : Table → Now → List Event → Flow → ℕ → Cleaning → SweepStage → Type 0
SweepFinds t n log f i c sweep.Check = Unit {0}
SweepFinds t n log f i c (sweep.Find s) = Unit {0}
SweepFinds t n log f i c sweep.Lock = Unit {0}
SweepFinds t n log f i c (sweep.Close closing.Again) = Unit {0}
SweepFinds t n log f i c (sweep.Close closing.Clean) = (c.passed ≡ 0) × SinceLocked i c log (λ at. Unit {0})
SweepFinds t n log f i c (sweep.Pass s) = (length c.waiting.items ≤ c.unlinked) × SinceLocked i c log (λ at. PassFinds t n log f at c s)
SweepFinds t n log f i c sweep.UnlockHead = SweepsAll n log i c c.unlinked
SweepFinds t n log f i c (sweep.Grace s) = SweepsAll n log i c c.unlinked
SweepFinds t n log f i c (sweep.Free s) = SweepsAll n log i c c.unlinked
SweepFinds t n log f i c (sweep.Answered a) = SweptAll n log i c a

-- the bucket is that of a hash; from its lock on a sweep is at the bucket of its own hash
abbrev pub IsAtHash : ℕ → Cleaning → Type 0
IsAtHash hash c = c.bucket ≡ bucket_in c.row hash

abbrev pub SweepIsAt : ℕ → Cleaning → SweepStage → Type 0
SweepIsAt hash c (sweep.Close closing.Clean) = IsAtHash hash c
SweepIsAt hash c (sweep.Pass s) = IsAtHash hash c
SweepIsAt hash c sweep.UnlockHead = IsAtHash hash c
SweepIsAt hash c (sweep.Grace s) = IsAtHash hash c
SweepIsAt hash c (sweep.Free s) = IsAtHash hash c
SweepIsAt hash c (sweep.Answered (answer.Swept unlinked)) = IsAtHash hash c
SweepIsAt hash c _ = Unit {0}

-- A SEAT

-- what a call that runs has found
abbrev pub CallFinds : Table → Now → List Event → Flow → ℕ → Seat → Type 0
CallFinds t n log f i (doing.Running (machine.Poll q)) = PollFinds t n log i q.work q.answer
CallFinds t n log f i (doing.Running (machine.Sweep s)) =
    LooksAtFew t s.along.cleaning × SweepFinds t n log f i s.along.cleaning s.stage × SweepIsAt s.asked.hash s.along.cleaning s.stage
CallFinds t n log f i _ = Unit {0}

-- and what the unfinished work of a seat has
abbrev pub PassesFind : Table → Now → List Event → Flow → ℕ → Seat → Type 0
PassesFind t n log f i s = IfSome (work_of s) (WorkFinds t n log f i) × CallFinds t n log f i s

-- WHAT IS UNLINKED

-- the slot is unlinked in a piece of a log
abbrev pub IsUnlinkedIn : ℕ → List Event → Type 0
IsUnlinkedIn s events = (front back : List Event) × (seat : ℕ) × (events ≡ front ++ by seat (what.Unlink s) ∷ back)

-- each of these slots that was linked and dead at any place up to one was unlinked behind it; which they are is said of the slot and its text
abbrev pub DeadAreUnlinked : ℕ → List Event → ℕ → (ℕ → List ℕ → Type 0) → Type 0
DeadAreUnlinked min_level log at Which = (front back : List Event) → log ≡ front ++ back → length front ≤ at → (s : ℕ) (text : List ℕ) (h : Handle) (born : ℕ) →
    (now_of min_level front).slot s ≡ Linked text h born → ¬ (IsLive (map_of front) h) → Which s text → IsUnlinkedIn s back

-- since the seat took the resize lock for the last time each slot that was linked and dead then was unlinked
abbrev pub HasCleaned : ℕ → List Event → ℕ → Type 0
HasCleaned min_level log i = (at : ℕ) × IsLast is_taken i what.ResizeTaken log at × DeadAreUnlinked min_level log at IsAny

-- the bucket that the seat locked for the last time is that of a hash, and since then each slot of it that was linked and dead was unlinked
abbrev pub HasSwept : ℕ → List Event → ℕ → ℕ → Type 0
HasSwept min_level log i hash =
    (row at : ℕ) × IsLast is_lock i (what.Lock row (bucket_in row hash)) log at × DeadAreUnlinked min_level log at (IsOfBucket (now_of min_level log).seed row (bucket_in row hash))
