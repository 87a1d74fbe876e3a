-- What an intern that waits comes to.
use Rattle.std.proofs.Common.{ℕ, List}
use Rattle.intern_log.specs.declared.event.Handle.{Handle}
use Rattle.atomic_step.specs.declared.answer.Answer.TheVariants as answer
use Rattle.call_machine.specs.declared.stage.Goal.TheVariants.{InternWait}
use Rattle.cht_run.specs.declared.intern_wait.Interned.TheVariants as interned
use Rattle.cht_run.specs.declared.intern_wait.InternedWeak.TheVariants as weak
use Rattle.cht_run.specs.declared.seat.Seat.{Seat}
use Rattle.cht_run.specs.declared.table.Cht.{Cht}
use Rattle.cht_run.specs.Ended.{Ended}
use Rattle.cht_run.specs.InternWaits.{InternsWaiting, WhyInternsWaiting, InternsWeakWaiting, WhyInternsWeakWaiting}
use Rattle.cht_run.specs.Walked.{Walked}
use Rattle.cht_run.proofs.Ended.{renamed}

module _ (cht : Cht) (text : List ℕ) (old new : Seat) where
  -- IN A COUNTED TABLE

  pub takes : (h : Handle) → Walked cht InternWait text old new (answer.Taken h) → Ended cht.origin.table old new (InternsWaiting text (interned.Taken h)) (WhyInternsWaiting cht.origin.table text (interned.Taken h))
  takes h w = renamed (InternsWaiting text (interned.Taken h)) (WhyInternsWaiting cht.origin.table text (interned.Taken h)) (λ events did. did.0) (λ seen window why. tt) w.ended

  pub makes : (h : Handle) → Walked cht InternWait text old new (answer.Created h) → Ended cht.origin.table old new (InternsWaiting text (interned.Created h)) (WhyInternsWaiting cht.origin.table text (interned.Created h))
  makes h w = renamed (InternsWaiting text (interned.Created h)) (WhyInternsWaiting cht.origin.table text (interned.Created h)) (λ events did. did.0) (λ seen window why. tt) w.ended

  pub no_slot : Walked cht InternWait text old new answer.NoSlot → Ended cht.origin.table old new (InternsWaiting text interned.NoSlot) (WhyInternsWaiting cht.origin.table text interned.NoSlot)
  no_slot w = renamed (InternsWaiting text interned.NoSlot) (WhyInternsWaiting cht.origin.table text interned.NoSlot) (λ events did. record { walk = did.0; none = did.1 }) (λ seen window why. why) w.ended

  -- IN A WEAK TABLE

  pub finds_weak : (h : Handle) → Walked cht InternWait text old new (answer.Found h) → Ended cht.origin.table old new (InternsWeakWaiting text (weak.Found h)) (WhyInternsWeakWaiting cht.origin.table text (weak.Found h))
  finds_weak h w = renamed (InternsWeakWaiting text (weak.Found h)) (WhyInternsWeakWaiting cht.origin.table text (weak.Found h)) (λ events did. did.0) (λ seen window why. tt) w.ended

  pub makes_weak : (h : Handle) → Walked cht InternWait text old new (answer.Created h) → Ended cht.origin.table old new (InternsWeakWaiting text (weak.Created h)) (WhyInternsWeakWaiting cht.origin.table text (weak.Created h))
  makes_weak h w = renamed (InternsWeakWaiting text (weak.Created h)) (WhyInternsWeakWaiting cht.origin.table text (weak.Created h)) (λ events did. did.0) (λ seen window why. tt) w.ended

  pub no_slot_weak : Walked cht InternWait text old new answer.NoSlot → Ended cht.origin.table old new (InternsWeakWaiting text weak.NoSlot) (WhyInternsWeakWaiting cht.origin.table text weak.NoSlot)
  no_slot_weak w = renamed (InternsWeakWaiting text weak.NoSlot) (WhyInternsWeakWaiting cht.origin.table text weak.NoSlot) (λ events did. record { walk = did.0; none = did.1 }) (λ seen window why. why) w.ended
