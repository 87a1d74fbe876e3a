-- A poll of a grow or a shrink that has answered, or is not about to exchange a head, knows nothing of a head that it loaded.
use Rattle.std.proofs.Common.{ℕ, List, Option, Some}
use Rattle.intern_log.specs.declared.event.Event.{Event}
use Rattle.atomic_step.specs.declared.answer.Answer.{Answer}
use Rattle.call_machine.specs.declared.lock.LockStage.TheVariants as lock
use Rattle.call_machine.specs.declared.resize.Direction.{Direction}
use Rattle.call_machine.specs.declared.resize.ResizeAlong.{ResizeAlong}
use Rattle.call_machine.specs.declared.resize.ResizeStage.{ResizeStage}
use Rattle.call_machine.specs.declared.resize.ResizeStage.TheVariants as resize
use Rattle.call_machine.specs.Resize.{Went}
use Rattle.cht_core.specs.declared.table.Table.{Table}
use Rattle.cht_core.specs.Causes.{IsAwayAt}
use Rattle.cht_core.specs.HeadKept.{ResizeHeaded}
use Rattle.cht_core.specs.Memory.{Memory}
use Rattle.cht_core.proofs.ResizeTurns.{GoesOn}

module _ (t : Table) (m : Memory) (i load : ℕ) (log : List Event) (d : Direction) where
  pub away_headed : (w : ResizeAlong) (s : ResizeStage) (a : Option Answer) → IsAwayAt s → ResizeHeaded t m i load log d w s a
  away_headed w resize.PutNewLevel a is = tt
  away_headed w (resize.Lock side lock.LoadHead) a is = tt
  away_headed w (resize.Lock side (lock.LockHead head)) a is = absurd is
  away_headed w (resize.PutHead side) a is = tt
  away_headed w (resize.RedirectHead side) a is = tt
  away_headed w (resize.Unzip s) a is = tt
  away_headed w (resize.Join s) a is = tt
  away_headed w (resize.UnlockHead side) a is = tt
  away_headed w (resize.Grace x s) a is = tt
  away_headed w resize.StoreLevel a is = tt
  away_headed w resize.ClearNewLevel a is = tt
  away_headed w resize.GiveResizeLock a is = tt

  pub answered_headed : (w : ResizeAlong) (s : ResizeStage) (a : Answer) → ResizeHeaded t m i load log d w s (Some a)
  answered_headed w resize.PutNewLevel a = tt
  answered_headed w (resize.Lock side lock.LoadHead) a = tt
  answered_headed w (resize.Lock side (lock.LockHead head)) a = tt
  answered_headed w (resize.PutHead side) a = tt
  answered_headed w (resize.RedirectHead side) a = tt
  answered_headed w (resize.Unzip s) a = tt
  answered_headed w (resize.Join s) a = tt
  answered_headed w (resize.UnlockHead side) a = tt
  answered_headed w (resize.Grace x s) a = tt
  answered_headed w resize.StoreLevel a = tt
  answered_headed w resize.ClearNewLevel a = tt
  answered_headed w resize.GiveResizeLock a = tt

  pub went_headed : (at : Went) → GoesOn at → ResizeHeaded t m i load log d at.0 at.1 at.2
  went_headed at on = away_headed at.0 at.1 at.2 on.0
