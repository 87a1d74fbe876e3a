-- Who grows or shrinks a table has the resize lock, at each stage.
use Rattle.std.proofs.Common.{◌≡◌, ℕ, Some}
use Rattle.intern_log.specs.Now.{Now, owner_of}
use Rattle.call_machine.specs.declared.grace.GraceStage.TheVariants.{RaiseCounter, LoadSection}
use Rattle.call_machine.specs.declared.resize.AfterGrace.TheVariants as after
use Rattle.call_machine.specs.declared.resize.Direction.{Direction}
use Rattle.call_machine.specs.declared.resize.Direction.TheVariants.{Grow, Shrink}
use Rattle.call_machine.specs.declared.resize.JoinStage.TheVariants as join
use Rattle.call_machine.specs.declared.resize.ResizeAlong.{ResizeAlong}
use Rattle.call_machine.specs.declared.resize.ResizeStage.{ResizeStage}
use Rattle.call_machine.specs.declared.resize.ResizeStage.TheVariants.{PutNewLevel, Lock, PutHead, RedirectHead, Unzip, Join, UnlockHead, Grace, StoreLevel, ClearNewLevel, GiveResizeLock}
use Rattle.call_machine.specs.declared.resize.Side.TheVariants.{Even, Odd}
use Rattle.call_machine.specs.declared.resize.UnzipStage.TheVariants as unzip
use Rattle.cht_core.specs.Flow.{Flow}
use Rattle.cht_core.specs.KnowsResize.{KnowsGrow, KnowsShrink, KnowsResize}
use Rattle.cht_core.specs.Memory.{Memory}

grow_owner : (m : Memory) (n : Now) (f : Flow) (i : ℕ) (w : ResizeAlong) (s : ResizeStage) → KnowsGrow m n f i w s → owner_of n.resizing ≡ Some i
grow_owner m n f i w PutNewLevel h = h.owner
grow_owner m n f i w (Lock side s) h = h.1.owner
grow_owner m n f i w (PutHead Even) h = h.3.owner
grow_owner m n f i w (PutHead Odd) h = h.4.owner
grow_owner m n f i w (RedirectHead side) h = h.1.4.owner
grow_owner m n f i w (Unzip (unzip.LoadMeta x)) h = h.resizing.owner
grow_owner m n f i w (Unzip (unzip.LoadLink x side)) h = h.0.resizing.owner
grow_owner m n f i w (Unzip (unzip.MoveEdge x side next)) h = h.0.resizing.owner
grow_owner m n f i w (Join s) h = absurd h
grow_owner m n f i w (UnlockHead Even) h = h.resizing.owner
grow_owner m n f i w (UnlockHead Odd) h = h.2.owner
grow_owner m n f i w (Grace after.Unzip RaiseCounter) h = h.1.resizing.owner
grow_owner m n f i w (Grace after.Unzip LoadSection) h = h.2.resizing.owner
grow_owner m n f i w (Grace after.UnlockHead s) h = absurd h
grow_owner m n f i w (Grace after.ClearNewLevel RaiseCounter) h = h.owner
grow_owner m n f i w (Grace after.ClearNewLevel LoadSection) h = h.0.owner
grow_owner m n f i w StoreLevel h = h.owner
grow_owner m n f i w ClearNewLevel h = h.0.owner
grow_owner m n f i w GiveResizeLock h = h.owner

shrink_owner : (m : Memory) (n : Now) (f : Flow) (i k : ℕ) (w : ResizeAlong) (s : ResizeStage) → KnowsShrink m n f i k w s → owner_of n.resizing ≡ Some i
shrink_owner m n f i k w PutNewLevel h = h.owner
shrink_owner m n f i k w (Lock Even s) h = h.1.owner
shrink_owner m n f i k w (Lock Odd s) h = h.2.owner
shrink_owner m n f i k w (PutHead side) h = h.resizing.owner
shrink_owner m n f i k w (RedirectHead Even) h = h.0.0.resizing.owner
shrink_owner m n f i k w (RedirectHead Odd) h = h.3.owner
shrink_owner m n f i k w (Unzip s) h = absurd h
shrink_owner m n f i k w (Join (join.LoadLink x)) h = h.0.0.resizing.owner
shrink_owner m n f i k w (Join (join.JoinChains x)) h = h.0.0.resizing.owner
shrink_owner m n f i k w (UnlockHead side) h = h.2.owner
shrink_owner m n f i k w (Grace after.Unzip s) h = absurd h
shrink_owner m n f i k w (Grace after.UnlockHead s) h = h.2.owner
shrink_owner m n f i k w (Grace after.ClearNewLevel RaiseCounter) h = h.owner
shrink_owner m n f i k w (Grace after.ClearNewLevel LoadSection) h = h.0.owner
shrink_owner m n f i k w StoreLevel h = h.owner
shrink_owner m n f i k w ClearNewLevel h = h.0.owner
shrink_owner m n f i k w GiveResizeLock h = h.owner

pub resize_owner : (m : Memory) (n : Now) (f : Flow) (i : ℕ) (d : Direction) (w : ResizeAlong) (s : ResizeStage) → KnowsResize m n f i d w s → owner_of n.resizing ≡ Some i
resize_owner m n f i Grow w s h = grow_owner m n f i w s h
resize_owner m n f i Shrink w s h = shrink_owner m n f i h.0 w s h.2
