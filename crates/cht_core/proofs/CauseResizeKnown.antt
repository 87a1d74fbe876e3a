-- What a grow or a shrink knows as it finds a word: callers come to the bucket that it is about to lock, which it has not locked, and the head
-- that it is about to exchange is the one that it loaded, or another seat had an event on the bucket since.
use Rattle.std.proofs.Common.{◌≡◌, ℕ, ◌+◌, ◌-◌, ◌^◌, Bool, true, false, List, Some, None, sym, subst, ◌∙◌, inl, inr, arith}
use Rattle.table_shape.specs.declared.shape.Shape.{Shape}
use Rattle.intern_log.specs.declared.event.Event.{Event}
use Rattle.atomic_step.specs.Monitor.{is_held}
use Rattle.atomic_step.specs.declared.plan.Plan.TheVariants as plan
use Rattle.call_machine.specs.declared.lock.LockStage.TheVariants as lock
use Rattle.call_machine.specs.declared.resize.Direction.{Direction}
use Rattle.call_machine.specs.declared.resize.Direction.TheVariants.{Grow, Shrink}
use Rattle.call_machine.specs.declared.resize.ResizeAlong.{ResizeAlong}
use Rattle.call_machine.specs.declared.resize.ResizeStage.{ResizeStage}
use Rattle.call_machine.specs.declared.resize.ResizeStage.TheVariants as resize
use Rattle.call_machine.specs.declared.resize.Side.TheVariants.{Even, Odd}
use Rattle.call_machine.specs.Resize.{half, resize_row}
use Rattle.call_machine.specs.ResizeLocks.{locked_heads}
use Rattle.call_machine.specs.SoundResize.{IsSoundResize}
use Rattle.call_machine.proofs.ResizeLocks.{lower_in_left, upper_in_left}
use Rattle.cht_core.specs.declared.table.Table.{Table}
use Rattle.cht_core.specs.Causes.{ResizeHears}
use Rattle.cht_core.specs.Flow.{Flow, IsUsed}
use Rattle.cht_core.specs.HeadKept.{ResizeHeaded}
use Rattle.cht_core.specs.KnowsResize.{NoHead, KnowsResize}
use Rattle.cht_core.specs.Memory.{Memory}
use Rattle.cht_core.specs.Past.{Past, past_of}
use Rattle.cht_core.specs.Stage.{Growing, Shrinking}
use Rattle.cht_core.proofs.CauseHears.{IsFound}
use Rattle.cht_core.proofs.ResizeBacks.{half_of}
use Rattle.cht_core.proofs.ResizeUsed.{left_used, even_used, pair_below}

not_mine : (b : Bool) → b ≡ false → ¬ (b ≡ true)
not_mine b other mine = let clash : false ≡ true = sym other ∙ mine in cc

module _ (t : Table) (m : Memory) (f : Flow) (i load : ℕ) (log : List Event) (shape : Shape) where
  abbrev Now' : Past
  Now' = past_of t.shape.min_level log

  abbrev Owed : Direction → ResizeAlong → ResizeStage → Type 0
  Owed d w s = (row bucket : ℕ) → Now'.now.lock row bucket ≡ Some i → is_held row bucket (locked_heads d w s) ≡ true

  pub resize_hears : (d : Direction) (w : ResizeAlong) (s : ResizeStage) (word : ℕ) → IsSoundResize shape d w s → KnowsResize m Now'.now f i d w s → Owed d w s →
      ResizeHeaded t m i load log d w s None → IsFound m (plan.Step (resize_row shape d w s).step) word → ResizeHears t Now' f i load log d w s word
  resize_hears Grow w (resize.Lock Even lock.LoadHead) word sound knows owes head is = (
    left_used Now'.now f i w.level w.bucket (Growing w.bucket) NoHead knows.1 (omega arith) knows.0,
    λ mine. not_mine (is_held w.level w.bucket (locked_heads Grow w (resize.Lock Even lock.LoadHead))) (lower_in_left Grow w.level w.bucket sound.along.bucket) (owes w.level w.bucket mine),
  )
  resize_hears Grow w (resize.Lock Odd lock.LoadHead) word sound knows owes head is = absurd sound.at
  resize_hears Shrink w (resize.Lock Even lock.LoadHead) word sound (k, level, knows) owes head is = (
    subst (λ (r : ℕ). IsUsed Now'.now f r w.bucket) (sym level) (even_used Now'.now f i k w.bucket NoHead knows.1 knows.0),
    λ mine. not_mine (is_held w.level w.bucket (locked_heads Shrink w (resize.Lock Even lock.LoadHead))) (lower_in_left Shrink w.level w.bucket sound.along.bucket) (owes w.level w.bucket mine),
  )
  resize_hears Shrink w (resize.Lock Odd lock.LoadHead) word sound (k, level, knows) owes head is = (
    subst (λ (r : ℕ). IsUsed Now'.now f r (w.bucket + 2 ^ (w.level - 1))) (sym level) (subst (λ (c : ℕ). IsUsed Now'.now f (k + 1) (w.bucket + 2 ^ c)) (sym (half_of w k level))
        (left_used Now'.now f i (k + 1) (w.bucket + 2 ^ k) (Shrinking k w.bucket) NoHead knows.2 (omega arith, inr (omega arith)) (pair_below k w.bucket knows.0).1)),
    λ mine. not_mine (is_held w.level (w.bucket + half Shrink w.level) (locked_heads Shrink w (resize.Lock Odd lock.LoadHead)))
        (upper_in_left w.level w.bucket (half Shrink w.level) sound.along.bucket) (owes w.level (w.bucket + half Shrink w.level) mine),
  )
  resize_hears d w (resize.Lock side (lock.LockHead h)) word sound knows owes head is = elim (head.says (sound.step 0).1) [ inl same ↦ inl (is ∙ same) | inr since ↦ inr since ]
  resize_hears d w resize.PutNewLevel word sound knows owes head is = tt
  resize_hears d w (resize.PutHead side) word sound knows owes head is = tt
  resize_hears d w (resize.RedirectHead side) word sound knows owes head is = tt
  resize_hears d w (resize.Unzip s) word sound knows owes head is = tt
  resize_hears d w (resize.Join s) word sound knows owes head is = tt
  resize_hears d w (resize.UnlockHead side) word sound knows owes head is = tt
  resize_hears d w (resize.Grace x s) word sound knows owes head is = tt
  resize_hears d w resize.StoreLevel word sound knows owes head is = tt
  resize_hears d w resize.ClearNewLevel word sound knows owes head is = tt
  resize_hears d w resize.GiveResizeLock word sound knows owes head is = tt
