-- What a seat knows of the word of a head that it loaded, by the log: where it had no lock it is still that word, or another seat had an event
-- on the bucket since. Where the head was redirected since, the bucket was locked then.
use Rattle.std.specs.Prelude.{◌≡◌, ℕ, ◌≤◌, ◌⊎◌, true, false, List, length, Option, Some, None}
use Rattle.marked_word.specs.Head.{is_locked, is_redirected}
use Rattle.table_shape.specs.declared.place.Place.TheVariants as place
use Rattle.intern_log.specs.declared.event.Event.{Event}
use Rattle.intern_log.specs.declared.event.What.{What}
use Rattle.atomic_step.specs.declared.answer.Answer.{Answer}
use Rattle.call_machine.specs.declared.clean.CleanAlong.{CleanAlong}
use Rattle.call_machine.specs.declared.clean.CleanStage.{CleanStage}
use Rattle.call_machine.specs.declared.clean.CleanStage.TheVariants as clean
use Rattle.call_machine.specs.declared.find.Walk.{Walk}
use Rattle.call_machine.specs.declared.lock.LockStage.TheVariants as lock
use Rattle.call_machine.specs.declared.machine.Machine.{Machine}
use Rattle.call_machine.specs.declared.machine.Machine.TheVariants as machine
use Rattle.call_machine.specs.declared.node.NodeStage.TheVariants as node
use Rattle.call_machine.specs.declared.resize.Direction.{Direction}
use Rattle.call_machine.specs.declared.resize.ResizeAlong.{ResizeAlong}
use Rattle.call_machine.specs.declared.resize.ResizeStage.{ResizeStage}
use Rattle.call_machine.specs.declared.resize.ResizeStage.TheVariants as resize
use Rattle.call_machine.specs.declared.stage.CallStage.{CallStage}
use Rattle.call_machine.specs.declared.stage.CallStage.TheVariants as stage
use Rattle.call_machine.specs.declared.work.Work.{Work}
use Rattle.call_machine.specs.declared.work.Work.TheVariants as work
use Rattle.call_machine.specs.Resize.{bucket_at}
use Rattle.cht_core.specs.declared.table.Table.{Table}
use Rattle.cht_core.specs.CauseCalls.{IsOnHome, IsTextLocked}
use Rattle.cht_core.specs.Causes.{now_in, IsOnBucket}
use Rattle.cht_core.specs.Memory.{Memory}
use Rattle.cht_core.specs.Windows.{AnotherSince, WasSince}

pub record HeadKept (m : Memory) (i row bucket load head : ℕ) (Is : List Event → What → Type 0) (Was : List Event → Type 0) (log : List Event) : Type 0 where
  pub early : load ≤ length log
  pub says : is_locked head ≡ false → (m (place.Head row bucket) ≡ head) ⊎ AnotherSince i Is load log
  pub turned : is_redirected (m (place.Head row bucket)) ≡ true → (is_redirected head ≡ true) ⊎ WasSince Was load log

-- the bucket is locked
abbrev pub IsBucketLocked : Table → ℕ → ℕ → List Event → Type 0
IsBucketLocked t row bucket log = (k : ℕ) × ((now_in t log).lock row bucket ≡ Some k)

-- a walk knows it of the bucket of its text, until it has met the entry
abbrev pub WalkHeaded : Table → Memory → ℕ → ℕ → List Event → List ℕ → Walk → CallStage → Type 0
WalkHeaded t m i load log text walk (stage.Node (node.Take slot count)) = Unit {0}
WalkHeaded t m i load log text walk (stage.Node s) = HeadKept m i walk.row walk.bucket load walk.head (IsOnHome t walk.row text) (IsTextLocked t text) log
WalkHeaded t m i load log text walk (stage.Insert s) = HeadKept m i walk.row walk.bucket load walk.head (IsOnHome t walk.row text) (IsTextLocked t text) log
WalkHeaded t m i load log text walk _ = Unit {0}

abbrev pub CleanHeaded : Table → Memory → ℕ → ℕ → List Event → CleanAlong → CleanStage → Option Answer → Type 0
CleanHeaded t m i load log w (clean.Lock (lock.LockHead head)) None = HeadKept m i w.cleaning.row w.cleaning.bucket load head (IsOnBucket t w.cleaning.row w.cleaning.bucket) (IsBucketLocked t w.cleaning.row w.cleaning.bucket) log
CleanHeaded t m i load log w _ _ = Unit {0}

abbrev pub ResizeHeaded : Table → Memory → ℕ → ℕ → List Event → Direction → ResizeAlong → ResizeStage → Option Answer → Type 0
ResizeHeaded t m i load log d w (resize.Lock side (lock.LockHead head)) None = HeadKept m i w.level (bucket_at d w side) load head (IsOnBucket t w.level (bucket_at d w side)) (IsBucketLocked t w.level (bucket_at d w side)) log
ResizeHeaded t m i load log d w _ _ = Unit {0}

abbrev pub WorkHeaded : Table → Memory → ℕ → ℕ → List Event → Work → Option Answer → Type 0
WorkHeaded t m i load log (work.Clean c) a = CleanHeaded t m i load log c.along c.stage a
WorkHeaded t m i load log (work.Resize r) a = ResizeHeaded t m i load log r.direction r.along r.stage a

-- a machine knows it from the load of the head to the exchange
abbrev pub Headed : Table → Memory → ℕ → ℕ → List Event → Machine → Type 0
Headed t m i load log (machine.Call c w g) = WalkHeaded t m i load log c.asked.text c.along.walk c.stage
Headed t m i load log (machine.Poll p) = WorkHeaded t m i load log p.work p.answer
Headed t m i load log _ = Unit {0}
