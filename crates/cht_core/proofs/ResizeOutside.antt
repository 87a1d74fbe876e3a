-- No step of a grow or a shrink opens a section.
use Rattle.std.proofs.Common.{ℕ, List, Bool, true, false, cond, Some, None}
use Rattle.std.specs.Prelude.{◌==◌}
use Rattle.intern_log.specs.declared.event.What.TheVariants as what
use Rattle.table_shape.specs.declared.shape.Shape.{Shape}
use Rattle.atomic_step.specs.Event.{event_of}
use Rattle.call_machine.specs.declared.grace.GraceStage.TheVariants.{RaiseCounter, LoadSection}
use Rattle.call_machine.specs.declared.lock.LockStage.TheVariants.{LoadHead, LockHead}
use Rattle.call_machine.specs.declared.resize.Direction.{Direction}
use Rattle.call_machine.specs.declared.resize.JoinStage.TheVariants as join
use Rattle.call_machine.specs.declared.resize.ResizeAlong.{ResizeAlong}
use Rattle.call_machine.specs.declared.resize.ResizeStage.{ResizeStage}
use Rattle.call_machine.specs.declared.resize.ResizeStage.TheVariants.{PutNewLevel, Lock, PutHead, RedirectHead, Unzip, Join, UnlockHead, Grace, StoreLevel, ClearNewLevel, GiveResizeLock}
use Rattle.call_machine.specs.declared.resize.UnzipStage.TheVariants as unzip
use Rattle.call_machine.specs.Resize.{resize_row, bucket_at}
use Rattle.cht_core.specs.Past.{Past, told}
use Rattle.cht_core.specs.Search.{IsOutside}

pub resize_outside : (p : Past) (i : ℕ) (text : List ℕ) (shape : Shape) (d : Direction) (w : ResizeAlong) (s : ResizeStage) (word : ℕ) → IsOutside p.now i
    → IsOutside (told p i (event_of text (resize_row shape d w s).step word)).now i
resize_outside p i text shape d w PutNewLevel word outside = outside
resize_outside p i text shape d w (Lock side LoadHead) word outside = outside
resize_outside p i text shape d w (Lock side (LockHead head)) word outside = exchange (word == head)
  where
    exchange : (met : Bool) → IsOutside (told p i (cond met (Some (what.Lock w.level (bucket_at d w side))) None)).now i
    exchange true = outside
    exchange false = outside
resize_outside p i text shape d w (PutHead side) word outside = outside
resize_outside p i text shape d w (RedirectHead side) word outside = outside
resize_outside p i text shape d w (Unzip (unzip.LoadMeta x)) word outside = outside
resize_outside p i text shape d w (Unzip (unzip.LoadLink x side)) word outside = outside
resize_outside p i text shape d w (Unzip (unzip.MoveEdge x side next)) word outside = outside
resize_outside p i text shape d w (Join (join.LoadLink x)) word outside = outside
resize_outside p i text shape d w (Join (join.JoinChains x)) word outside = outside
resize_outside p i text shape d w (UnlockHead side) word outside = outside
resize_outside p i text shape d w (Grace then_do RaiseCounter) word outside = outside
resize_outside p i text shape d w (Grace then_do LoadSection) word outside = outside
resize_outside p i text shape d w StoreLevel word outside = outside
resize_outside p i text shape d w ClearNewLevel word outside = outside
resize_outside p i text shape d w GiveResizeLock word outside = outside
