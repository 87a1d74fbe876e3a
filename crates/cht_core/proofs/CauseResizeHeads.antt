-- What a poll of a grow or a shrink knows of the head that it loaded, over its own steps.
use Rattle.std.proofs.Common.{◌≡◌, ℕ, ◌+◌, ◌==◌, if◌then◌else◌, List, ◌++◌, length, sym, subst}
use Rattle.marked_word.specs.Head.{is_locked, first_of}
use Rattle.section_core.specs.Words.{waits_for}
use Rattle.table_shape.specs.declared.shape.Shape.{Shape}
use Rattle.intern_log.specs.declared.event.Event.{Event}
use Rattle.atomic_step.specs.declared.plan.Plan.TheVariants as plan
use Rattle.atomic_step.proofs.Choices.{either_way}
use Rattle.call_machine.specs.declared.grace.Grace.{Grace}
use Rattle.call_machine.specs.declared.grace.GraceStage.TheVariants as grace
use Rattle.call_machine.specs.declared.grace.Gracing.{Gracing}
use Rattle.call_machine.specs.declared.grace.Gracing.TheVariants as gracing
use Rattle.call_machine.specs.declared.lock.Locking.{Locking}
use Rattle.call_machine.specs.declared.lock.Locking.TheVariants as locking
use Rattle.call_machine.specs.declared.lock.LockStage.TheVariants as lock
use Rattle.call_machine.specs.declared.resize.Direction.{Direction}
use Rattle.call_machine.specs.declared.resize.ResizeAlong.{ResizeAlong}
use Rattle.call_machine.specs.declared.resize.ResizeStage.{ResizeStage}
use Rattle.call_machine.specs.declared.resize.ResizeStage.TheVariants as resize
use Rattle.call_machine.specs.Grace.{counts_grace}
use Rattle.call_machine.specs.Resize.{Went, bucket_at, has_locked, locks_on, graces_on, resize_row}
use Rattle.cht_core.specs.declared.table.Table.{Table}
use Rattle.cht_core.specs.Causes.{loaded_at, IsOnBucket}
use Rattle.cht_core.specs.HeadKept.{HeadKept, IsBucketLocked, ResizeHeaded}
use Rattle.cht_core.specs.Memory.{Memory}
use Rattle.cht_core.proofs.CauseAways.{went_headed}
use Rattle.cht_core.proofs.CauseHeads.{kept_from_load}
use Rattle.cht_core.proofs.CauseHears.{IsFound}
use Rattle.cht_core.proofs.CauseOwnHeads.{IsMadeBy}
use Rattle.cht_core.proofs.ResizeTurns.{IsPlain, locked_on, grace_over, plain_on}

module _ (t : Table) (m m' : Memory) (i : ℕ) (log more : List Event) (now load : ℕ) (at : now ≡ length log) (shape : Shape) (d : Direction) (w : ResizeAlong) where
  abbrev Comes : ℕ → Went → Type 0
  Comes from came = ResizeHeaded t m' i from (log ++ more) d came.0 came.1 came.2

  plain : (s : ResizeStage) (word : ℕ) → IsPlain s → Comes (loaded_at (plan.Step (resize_row shape d w s).step) now load) ((resize_row shape d w s).next word)
  plain s word is = went_headed t m' i (loaded_at (plan.Step (resize_row shape d w s).step) now load) (log ++ more) d ((resize_row shape d w s).next word) (plain_on shape d w s word is)

  -- a resize over its own step
  pub resize_headed : (s : ResizeStage) (word : ℕ) → IsMadeBy m m' (plan.Step (resize_row shape d w s).step) → IsFound m (plan.Step (resize_row shape d w s).step) word →
      Comes (loaded_at (plan.Step (resize_row shape d w s).step) now load) ((resize_row shape d w s).next word)
  resize_headed (resize.Lock side lock.LoadHead) word made is =
      let bucket : ℕ = bucket_at d w side in
      either_way (λ (l : Locking). Comes now (locks_on d w side l)) (is_locked word) locking.Waits (locking.Goes (lock.LockHead word)) tt
      (subst (λ head. HeadKept m' i w.level bucket now head (IsOnBucket t w.level bucket) (IsBucketLocked t w.level bucket) (log ++ more)) (sym is)
      (kept_from_load m m' i w.level bucket now log more (IsOnBucket t w.level bucket) (IsBucketLocked t w.level bucket) made at))
  resize_headed (resize.Lock side (lock.LockHead head)) word made is =
      either_way (λ (l : Locking). Comes load (locks_on d w side l)) (word == head) (locking.Locked (first_of word)) locking.Waits
      (went_headed t m' i load (log ++ more) d (has_locked d w side (first_of word)) (locked_on d w side (first_of word))) tt
  resize_headed (resize.Grace x grace.LoadSection) word made is =
      either_way (λ (at : Grace × Gracing). Comes load (graces_on (record w { grace = at.0; graces = counts_grace grace.LoadSection w.graces }) x at.1)) (waits_for w.grace.raised word)
      (w.grace, gracing.Waits) (if w.grace.next + 1 == shape.seats then (w.grace, gracing.Over) else (record w.grace { next = w.grace.next + 1 }, gracing.Goes)) tt
      (either_way (λ (at : Grace × Gracing). Comes load (graces_on (record w { grace = at.0; graces = counts_grace grace.LoadSection w.graces }) x at.1)) (w.grace.next + 1 == shape.seats)
      (w.grace, gracing.Over) (record w.grace { next = w.grace.next + 1 }, gracing.Goes)
      (let v : ResizeAlong = record w { graces = counts_grace grace.LoadSection w.graces } in went_headed t m' i load (log ++ more) d (graces_on v x gracing.Over) (grace_over v x)) tt)
  resize_headed (resize.Grace x grace.RaiseCounter) word made is = tt
  resize_headed resize.PutNewLevel word made is = tt
  resize_headed (resize.PutHead side) word made is = plain (resize.PutHead side) word tt
  resize_headed (resize.RedirectHead side) word made is = plain (resize.RedirectHead side) word tt
  resize_headed (resize.Unzip s) word made is = plain (resize.Unzip s) word tt
  resize_headed (resize.Join s) word made is = plain (resize.Join s) word tt
  resize_headed (resize.UnlockHead side) word made is = plain (resize.UnlockHead side) word tt
  resize_headed resize.StoreLevel word made is = tt
  resize_headed resize.ClearNewLevel word made is = tt
  resize_headed resize.GiveResizeLock word made is = tt
