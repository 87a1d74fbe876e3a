-- Where a work stands that is pending.
use Rattle.std.specs.Prelude.{◌≡◌, ◌^◌, nat_le, Bool, true, false}
use Rattle.call_machine.specs.declared.clean.CleanAlong.{CleanAlong}
use Rattle.call_machine.specs.declared.clean.CleanStage.{CleanStage}
use Rattle.call_machine.specs.declared.clean.CleanStage.TheVariants as clean
use Rattle.call_machine.specs.declared.grace.GraceStage.TheVariants.{RaiseCounter, LoadSection}
use Rattle.call_machine.specs.declared.lock.LockStage.TheVariants as lock
use Rattle.call_machine.specs.declared.resize.ResizeAlong.{ResizeAlong}
use Rattle.call_machine.specs.declared.resize.ResizeStage.{ResizeStage}
use Rattle.call_machine.specs.declared.resize.ResizeStage.TheVariants as resize
use Rattle.call_machine.specs.declared.work.Work.{Work}
use Rattle.call_machine.specs.declared.work.Work.TheVariants as work

-- at its beginning, at a bucket or at a section; and before a grace only where none may begin any more
abbrev pub clean_pends : CleanAlong → CleanStage → Bool
clean_pends w clean.LoadLevel = true
clean_pends w (clean.Lock lock.LoadHead) = true
clean_pends w (clean.Grace freeing RaiseCounter) = nat_le (2 ^ 63) w.grace.raised
clean_pends w (clean.Grace freeing LoadSection) = true
clean_pends w _ = false

abbrev pub resize_pends : ResizeAlong → ResizeStage → Bool
resize_pends w resize.PutNewLevel = true
resize_pends w (resize.Lock side lock.LoadHead) = true
resize_pends w (resize.Grace then_do RaiseCounter) = nat_le (2 ^ 63) w.grace.raised
resize_pends w (resize.Grace then_do LoadSection) = true
resize_pends w _ = false

abbrev pub may_pend : Work → Bool
may_pend (work.Clean c) = clean_pends c.along c.stage
may_pend (work.Resize r) = resize_pends r.along r.stage

abbrev pub CleanPends : CleanAlong → CleanStage → Type 0
CleanPends w s = clean_pends w s ≡ true

abbrev pub ResizePends : ResizeAlong → ResizeStage → Type 0
ResizePends w s = resize_pends w s ≡ true

abbrev pub MayPend : Work → Type 0
MayPend w = may_pend w ≡ true

-- before a grace
abbrev pub IsCleanHeld : CleanStage → Type 0
IsCleanHeld (clean.Grace freeing RaiseCounter) = Unit {0}
IsCleanHeld _ = ⊥

abbrev pub IsResizeHeld : ResizeStage → Type 0
IsResizeHeld (resize.Grace then_do RaiseCounter) = Unit {0}
IsResizeHeld _ = ⊥

abbrev pub IsHeld : Work → Type 0
IsHeld (work.Clean c) = IsCleanHeld c.stage
IsHeld (work.Resize r) = IsResizeHeld r.stage
