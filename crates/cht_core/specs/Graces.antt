-- How many graces a grow has begun, against the entries that were made: each grace but the last one follows the move of one node.
use Rattle.std.specs.Prelude.{◌≢◌, ℕ, ◌+◌, ◌≤◌, Bool, false, nat_lt, nat_eq, List, length, IfSome}
use Rattle.chain_core.specs.Nodes.{On, Once}
use Rattle.text_words.specs.Hash.{hash_of}
use Rattle.intern_log.specs.declared.event.Event.{Event}
use Rattle.intern_log.specs.declared.event.What.{What}
use Rattle.intern_log.specs.declared.event.What.TheVariants as what
use Rattle.intern_log.specs.Counts.{is_create, events_in}
use Rattle.intern_log.specs.Now.{Now}
use Rattle.atomic_step.specs.declared.answer.Answer.{Answer}
use Rattle.atomic_step.specs.declared.answer.Answer.TheVariants as answer
use Rattle.atomic_step.specs.declared.answer.Worked.{Worked}
use Rattle.call_machine.specs.declared.grace.GraceStage.TheVariants.{RaiseCounter, LoadSection}
use Rattle.call_machine.specs.declared.machine.Machine.TheVariants as machine
use Rattle.call_machine.specs.declared.resize.AfterGrace.TheVariants as after
use Rattle.call_machine.specs.declared.resize.Direction.{Direction}
use Rattle.call_machine.specs.declared.resize.Direction.TheVariants.{Grow, Shrink}
use Rattle.call_machine.specs.declared.resize.ResizeAlong.{ResizeAlong}
use Rattle.call_machine.specs.declared.resize.ResizeStage.{ResizeStage}
use Rattle.call_machine.specs.declared.resize.ResizeStage.TheVariants.{PutNewLevel, Lock, PutHead, RedirectHead, Unzip, Join, UnlockHead, Grace, StoreLevel, ClearNewLevel, GiveResizeLock}
use Rattle.call_machine.specs.declared.resize.Side.TheVariants.{Even, Odd}
use Rattle.call_machine.specs.declared.work.Work.{Work}
use Rattle.call_machine.specs.declared.work.Work.TheVariants as work
use Rattle.cht_core.specs.declared.seat.Seat.{Seat}
use Rattle.cht_core.specs.declared.seat.Seat.TheVariants as doing
use Rattle.cht_core.specs.Bounds.{work_of}
use Rattle.cht_core.specs.Flow.{Flow}
use Rattle.cht_core.specs.Stage.{Whole, bucket_in}

-- THE LOG

-- the entries that were made
abbrev pub creates_in : List Event → ℕ
creates_in log = events_in is_create log

-- those of texts of a bucket, and those of texts of all buckets below one, in the row of a level by a seed
abbrev pub enters : ℕ → ℕ → ℕ → What → Bool
enters seed level b (what.Create text h) = nat_eq (bucket_in level (hash_of seed text)) b
enters seed level b _ = false

abbrev pub enters_below : ℕ → ℕ → ℕ → What → Bool
enters_below seed level b (what.Create text h) = nat_lt (bucket_in level (hash_of seed text)) b
enters_below seed level b _ = false

abbrev pub entered_in : ℕ → ℕ → ℕ → List Event → ℕ
entered_in seed level b log = events_in (enters seed level b) log

abbrev pub entered_below : ℕ → ℕ → ℕ → List Event → ℕ
entered_below seed level b log = events_in (enters_below seed level b) log

-- A GROW

-- of the graces each is for an entry, or for one of some slots that were moved past in the bucket that is unzipped
abbrev pub AreFew : Flow → ℕ → ℕ → Type 0
AreFew f graces entered = (moved : List ℕ) × Once moved × ((s : ℕ) → On s moved → f.parted s ≢ Whole) × (graces ≤ entered + length moved)

-- in the buckets that are done a grace is for an entry of that bucket; the last grace, after the level, is one more
abbrev pub HasFewGraces : Now → List Event → Flow → ResizeAlong → ResizeStage → Type 0
HasFewGraces n log f w PutNewLevel = w.graces ≤ entered_below n.seed w.level w.bucket log
HasFewGraces n log f w (Lock side s) = w.graces ≤ entered_below n.seed w.level w.bucket log
HasFewGraces n log f w (PutHead side) = w.graces ≤ entered_below n.seed w.level w.bucket log
HasFewGraces n log f w (RedirectHead side) = w.graces ≤ entered_below n.seed w.level w.bucket log
HasFewGraces n log f w (Unzip s) = AreFew f w.graces (entered_below n.seed w.level w.bucket log)
HasFewGraces n log f w (Join s) = ⊥
HasFewGraces n log f w (UnlockHead Even) = AreFew f w.graces (entered_below n.seed w.level w.bucket log)
HasFewGraces n log f w (UnlockHead Odd) = w.graces ≤ entered_below n.seed w.level (w.bucket + 1) log
HasFewGraces n log f w (Grace after.Unzip RaiseCounter) = AreFew f (w.graces + 1) (entered_below n.seed w.level w.bucket log)
HasFewGraces n log f w (Grace after.Unzip LoadSection) = AreFew f w.graces (entered_below n.seed w.level w.bucket log)
HasFewGraces n log f w (Grace after.UnlockHead s) = ⊥
HasFewGraces n log f w (Grace after.ClearNewLevel RaiseCounter) = w.graces ≤ creates_in log
HasFewGraces n log f w (Grace after.ClearNewLevel LoadSection) = w.graces ≤ creates_in log + 1
HasFewGraces n log f w StoreLevel = w.graces ≤ creates_in log
HasFewGraces n log f w ClearNewLevel = w.graces ≤ creates_in log + 1
HasFewGraces n log f w GiveResizeLock = w.graces ≤ creates_in log + 1

-- A SEAT

abbrev pub ResizesWithFew : Now → List Event → Flow → Direction → ResizeAlong → ResizeStage → Type 0
ResizesWithFew n log f Grow w s = HasFewGraces n log f w s
ResizesWithFew n log f Shrink w s = Unit {0}

abbrev pub WorksWithFew : Now → List Event → Flow → Work → Type 0
WorksWithFew n log f (work.Resize r) = ResizesWithFew n log f r.direction r.along r.stage
WorksWithFew n log f (work.Clean c) = Unit {0}

-- what the poll of a grow has answered
abbrev pub WorkedWithFew : List Event → Direction → Worked → Type 0
WorkedWithFew log Grow did = did.graces ≤ creates_in log + 1
WorkedWithFew log Shrink did = Unit {0}

abbrev pub IsAnswerWithFew : List Event → Work → Answer → Type 0
IsAnswerWithFew log (work.Resize r) (answer.Done did) = WorkedWithFew log r.direction did
IsAnswerWithFew log _ _ = Unit {0}

abbrev pub AnswersWithFew : List Event → Seat → Type 0
AnswersWithFew log (doing.Running (machine.Poll q)) = IfSome q.answer (IsAnswerWithFew log q.work)
AnswersWithFew log _ = Unit {0}

abbrev pub GrowsWithFew : Now → List Event → Flow → Seat → Type 0
GrowsWithFew n log f s = IfSome (work_of s) (WorksWithFew n log f) × AnswersWithFew log s
