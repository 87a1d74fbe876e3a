-- At how many nodes of a pair a grow or a shrink has looked: each is another slot of the table.
use Rattle.std.specs.Prelude.{◌≡◌, ◌≢◌, ℕ, ◌+◌, ◌≤◌, List, ◌∷◌, ◌++◌, length, IfSome}
use Rattle.chain_core.specs.Nodes.{On, Once}
use Rattle.call_machine.specs.declared.resize.AfterGrace.TheVariants as after
use Rattle.call_machine.specs.declared.resize.Direction.{Direction}
use Rattle.call_machine.specs.declared.resize.Direction.TheVariants.{Grow, Shrink}
use Rattle.call_machine.specs.declared.resize.JoinStage.TheVariants as join
use Rattle.call_machine.specs.declared.resize.ResizeAlong.{ResizeAlong}
use Rattle.call_machine.specs.declared.resize.ResizeStage.{ResizeStage}
use Rattle.call_machine.specs.declared.resize.ResizeStage.TheVariants.{PutNewLevel, Lock, PutHead, RedirectHead, Unzip, Join, UnlockHead, Grace, StoreLevel, ClearNewLevel, GiveResizeLock}
use Rattle.call_machine.specs.declared.resize.Side.TheVariants.{Even, Odd}
use Rattle.call_machine.specs.declared.resize.UnzipStage.TheVariants as unzip
use Rattle.call_machine.specs.declared.work.Work.{Work}
use Rattle.call_machine.specs.declared.work.Work.TheVariants as work
use Rattle.cht_core.specs.declared.seat.Seat.{Seat}
use Rattle.cht_core.specs.Bounds.{work_of}
use Rattle.cht_core.specs.Flow.{Flow}
use Rattle.cht_core.specs.Stage.{Whole}

-- A GROW

-- of the nodes that were looked at each was moved past in the bucket that is unzipped, except for so many
abbrev pub LooksAtMoved : Flow → ℕ → ℕ → Type 0
LooksAtMoved f passed beside = (moved : List ℕ) × Once moved × ((s : ℕ) → On s moved → f.parted s ≢ Whole) × (passed ≤ length moved + beside)

-- until its bucket is redirected a grow looks at none, and from then on at one after another, which it then moves past
abbrev pub GrowLooksAtFew : ℕ → Flow → ResizeAlong → ResizeStage → Type 0
GrowLooksAtFew slots f w PutNewLevel = w.passed ≡ 0
GrowLooksAtFew slots f w (Lock side s) = w.passed ≡ 0
GrowLooksAtFew slots f w (PutHead side) = w.passed ≡ 0
GrowLooksAtFew slots f w (RedirectHead side) = w.passed ≡ 0
GrowLooksAtFew slots f w (Unzip (unzip.LoadMeta x)) = LooksAtMoved f w.passed 0
GrowLooksAtFew slots f w (Unzip (unzip.LoadLink x side)) = LooksAtMoved f w.passed 1
GrowLooksAtFew slots f w (Unzip (unzip.MoveEdge x side next)) = LooksAtMoved f w.passed 1
GrowLooksAtFew slots f w (Join s) = ⊥
GrowLooksAtFew slots f w (UnlockHead Even) = LooksAtMoved f w.passed 0
GrowLooksAtFew slots f w (UnlockHead Odd) = w.passed ≤ slots
GrowLooksAtFew slots f w (Grace after.Unzip s) = LooksAtMoved f w.passed 0
GrowLooksAtFew slots f w (Grace after.UnlockHead s) = ⊥
GrowLooksAtFew slots f w (Grace after.ClearNewLevel s) = w.passed ≤ slots
GrowLooksAtFew slots f w StoreLevel = w.passed ≤ slots
GrowLooksAtFew slots f w ClearNewLevel = w.passed ≤ slots
GrowLooksAtFew slots f w GiveResizeLock = w.passed ≤ slots

-- A SHRINK

-- the node is on the chain, behind at least so many
abbrev pub ComesBehind : List ℕ → ℕ → ℕ → Type 0
ComesBehind chain x passed = (before : List ℕ) × (behind : List ℕ) × (chain ≡ before ++ x ∷ behind) × (passed ≤ length before)

-- until its pair has its new head a shrink looks at none, and then at those of the even chain in their order
abbrev pub ShrinkLooksAtFew : ℕ → Flow → ResizeAlong → ResizeStage → Type 0
ShrinkLooksAtFew slots f w PutNewLevel = w.passed ≡ 0
ShrinkLooksAtFew slots f w (Lock side s) = w.passed ≡ 0
ShrinkLooksAtFew slots f w (PutHead side) = w.passed ≡ 0
ShrinkLooksAtFew slots f w (RedirectHead side) = w.passed ≤ slots
ShrinkLooksAtFew slots f w (Unzip s) = ⊥
ShrinkLooksAtFew slots f w (Join (join.LoadLink x)) = ComesBehind (f.chain w.level w.bucket) x w.passed
ShrinkLooksAtFew slots f w (Join (join.JoinChains x)) = w.passed ≤ slots
ShrinkLooksAtFew slots f w (UnlockHead side) = w.passed ≤ slots
ShrinkLooksAtFew slots f w (Grace after.Unzip s) = ⊥
ShrinkLooksAtFew slots f w (Grace after.UnlockHead s) = w.passed ≤ slots
ShrinkLooksAtFew slots f w (Grace after.ClearNewLevel s) = w.passed ≤ slots
ShrinkLooksAtFew slots f w StoreLevel = w.passed ≤ slots
ShrinkLooksAtFew slots f w ClearNewLevel = w.passed ≤ slots
ShrinkLooksAtFew slots f w GiveResizeLock = w.passed ≤ slots

-- A SEAT

abbrev pub ResizeLooksAtFew : ℕ → Flow → Direction → ResizeAlong → ResizeStage → Type 0
ResizeLooksAtFew slots f Grow w s = GrowLooksAtFew slots f w s
ResizeLooksAtFew slots f Shrink w s = ShrinkLooksAtFew slots f w s

abbrev pub WorkLooksAtFew : ℕ → Flow → Work → Type 0
WorkLooksAtFew slots f (work.Resize r) = ResizeLooksAtFew slots f r.direction r.along r.stage
WorkLooksAtFew slots f (work.Clean c) = Unit {0}

-- with its unfinished grow or shrink, if it has one
abbrev pub LooksAtFew : ℕ → Flow → Seat → Type 0
LooksAtFew slots f s = IfSome (work_of s) (WorkLooksAtFew slots f)
