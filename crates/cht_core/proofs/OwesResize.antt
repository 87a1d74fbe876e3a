-- What the log says that a seat with a grow or a shrink has, it is at: so it is after each of its steps.
use Rattle.std.proofs.Common.{◌≡◌, ◌≢◌, ℕ, zero, suc, ◌+◌, ◌^◌, ◌==◌, inl, inr, Bool, true, false, cond, List, [], ◌∷◌, Option, Some, None, refl, sym, subst, ◌∙◌, arith}
use Rattle.std.specs.Prelude.{nat_lt, nat_le}
use Rattle.intern_log.specs.declared.event.What.{What}
use Rattle.intern_log.specs.declared.event.What.TheVariants as what
use Rattle.intern_log.specs.Now.{Now}
use Rattle.table_shape.specs.declared.shape.Shape.{Shape}
use Rattle.atomic_step.specs.declared.answer.Answer.{Answer}
use Rattle.atomic_step.specs.declared.answer.Answer.TheVariants as answer
use Rattle.atomic_step.specs.Event.{event_of}
use Rattle.atomic_step.specs.Monitor.{is_held, is_lock_of}
use Rattle.atomic_step.proofs.Choices.{either_way}
use Rattle.call_machine.specs.declared.caller.Caller.{Caller}
use Rattle.call_machine.specs.declared.grace.GraceStage.TheVariants.{RaiseCounter, LoadSection}
use Rattle.call_machine.specs.declared.grace.Gracing.{Gracing}
use Rattle.call_machine.specs.declared.grace.Gracing.TheVariants as gracing
use Rattle.call_machine.specs.declared.lock.Locking.{Locking}
use Rattle.call_machine.specs.declared.lock.Locking.TheVariants as locking
use Rattle.call_machine.specs.declared.lock.LockStage.TheVariants.{LoadHead, LockHead}
use Rattle.call_machine.specs.declared.machine.Machine.TheVariants as machine
use Rattle.call_machine.specs.declared.resize.AfterGrace.{AfterGrace}
use Rattle.call_machine.specs.declared.resize.Direction.{Direction}
use Rattle.call_machine.specs.declared.resize.Direction.TheVariants.{Grow, Shrink}
use Rattle.call_machine.specs.declared.resize.JoinStage.TheVariants as join
use Rattle.call_machine.specs.declared.resize.Resize.{Resize}
use Rattle.call_machine.specs.declared.resize.ResizeAlong.{ResizeAlong}
use Rattle.call_machine.specs.declared.resize.ResizeStage.{ResizeStage}
use Rattle.call_machine.specs.declared.resize.ResizeStage.TheVariants as stage
use Rattle.call_machine.specs.declared.resize.Side.{Side}
use Rattle.call_machine.specs.declared.resize.Side.TheVariants.{Even, Odd}
use Rattle.call_machine.specs.declared.resize.UnzipStage.TheVariants as unzip
use Rattle.call_machine.specs.declared.work.Work.TheVariants as work
use Rattle.call_machine.specs.Grace.{held_back, scanned}
use Rattle.call_machine.specs.Lock.{lock_row}
use Rattle.call_machine.specs.Poll.{polling, poll_got, poll_event, work_left}
use Rattle.call_machine.specs.Resize.{Went, half, bucket_at, locks_on, graces_on, resize_row}
use Rattle.call_machine.specs.ResizeLocks.{row_left, pairs_left, old_heads, locked_heads}
use Rattle.call_machine.specs.SoundResize.{IsSoundResize}
use Rattle.call_machine.proofs.ResizeLocks.{heads_step}
use Rattle.cht_core.specs.declared.seat.Seat.TheVariants as doing
use Rattle.cht_core.specs.Flow.{Flow}
use Rattle.cht_core.specs.KnowsResize.{NoHead, Resizing, KnowsResize}
use Rattle.cht_core.specs.Memory.{Memory}
use Rattle.cht_core.specs.Owes.{Owes, waiting_of_work, locked_in_work}
use Rattle.cht_core.specs.Past.{Past, told}
use Rattle.cht_core.specs.Stage.{Quiet}
use Rattle.cht_core.proofs.OwesCalls.{HasAtMost}
use Rattle.cht_core.proofs.OwesHeads.{is_that, heads_after}
use Rattle.cht_core.proofs.OwesKept.{UnlinkedAtMost, LockedAtMost, HasNoClaim, HasNoUnlink, claimed_stays, waits_stay}
use Rattle.cht_core.proofs.ResizeNext.{last_or_not}
use Rattle.cht_core.proofs.ResizeParts.{free_at}

-- a resize claims no slot and unlinks none
resize_quiet_event : (shape : Shape) (d : Direction) (w : ResizeAlong) (s : ResizeStage) (word : ℕ) → let e = event_of [] (resize_row shape d w s).step word in HasNoClaim e × HasNoUnlink e
resize_quiet_event shape d w stage.PutNewLevel word = (tt, tt)
resize_quiet_event shape d w (stage.Lock side LoadHead) word = (tt, tt)
resize_quiet_event shape d w (stage.Lock side (LockHead head)) word =
    either_way (λ e. HasNoClaim e × HasNoUnlink e) (word == head) (Some (what.Lock w.level (bucket_at d w side))) None (tt, tt) (tt, tt)
resize_quiet_event shape d w (stage.PutHead side) word = (tt, tt)
resize_quiet_event shape d w (stage.RedirectHead side) word = (tt, tt)
resize_quiet_event shape d w (stage.Unzip (unzip.LoadMeta x)) word = (tt, tt)
resize_quiet_event shape d w (stage.Unzip (unzip.LoadLink x side)) word = (tt, tt)
resize_quiet_event shape d w (stage.Unzip (unzip.MoveEdge x side next)) word = (tt, tt)
resize_quiet_event shape d w (stage.Join (join.LoadLink x)) word = (tt, tt)
resize_quiet_event shape d w (stage.Join (join.JoinChains x)) word = (tt, tt)
resize_quiet_event shape d w (stage.UnlockHead side) word = (tt, tt)
resize_quiet_event shape d w (stage.Grace then_do RaiseCounter) word = (tt, tt)
resize_quiet_event shape d w (stage.Grace then_do LoadSection) word = (tt, tt)
resize_quiet_event shape d w stage.StoreLevel word = (tt, tt)
resize_quiet_event shape d w stage.ClearNewLevel word = (tt, tt)
resize_quiet_event shape d w stage.GiveResizeLock word = (tt, tt)

-- a poll that does not say that its work is done
abbrev IsUndone : Option Answer → Type 0
IsUndone None = Unit {0}
IsUndone (Some (answer.Done did)) = ⊥
IsUndone (Some a) = Unit {0}

locks_undone : (d : Direction) (w : ResizeAlong) (side : Side) (came : Locking) → IsUndone (locks_on d w side came).2
locks_undone d w side (locking.Goes s) = tt
locks_undone d w side locking.Waits = tt
locks_undone Grow w side (locking.Locked first) = tt
locks_undone Shrink w Even (locking.Locked first) = tt
locks_undone Shrink w Odd (locking.Locked first) = tt

held_undone : (raised : ℕ) → IsUndone (held_back raised)
held_undone raised = either_way IsUndone (nat_le (2 ^ 63) raised) (Some (answer.PendingSeat 0)) None tt tt

graces_undone : (w : ResizeAlong) (then_do : AfterGrace) (came : Gracing) → IsUndone (graces_on w then_do came).2
graces_undone w then_do gracing.Goes = tt
graces_undone w then_do gracing.Waits = tt
graces_undone w then_do gracing.Over = tt

-- only its last step says so
undone : (shape : Shape) (d : Direction) (w : ResizeAlong) (s : ResizeStage) (word : ℕ) → s ≢ stage.GiveResizeLock → IsUndone ((resize_row shape d w s).next word).2
undone shape d w stage.PutNewLevel word more = tt
undone shape d w (stage.Lock side s) word more = locks_undone d w side ((lock_row w.level (bucket_at d w side) s).next word)
undone shape d w (stage.PutHead side) word more = tt
undone shape Grow w (stage.RedirectHead side) word more = tt
undone shape Shrink w (stage.RedirectHead Even) word more = tt
undone shape Shrink w (stage.RedirectHead Odd) word more = held_undone w.grace.raised
undone shape d w (stage.Unzip (unzip.LoadMeta x)) word more = tt
undone shape d w (stage.Unzip (unzip.LoadLink x side)) word more = tt
undone shape d w (stage.Unzip (unzip.MoveEdge x side next)) word more = held_undone w.grace.raised
undone shape d w (stage.Join (join.LoadLink x)) word more = tt
undone shape d w (stage.Join (join.JoinChains x)) word more = tt
undone shape Grow w (stage.UnlockHead Even) word more = tt
undone shape Grow w (stage.UnlockHead Odd) word more = either_way (λ (went : Went). IsUndone went.2) (nat_lt (w.bucket + 1) (half Grow w.level)) _ _ tt tt
undone shape Shrink w (stage.UnlockHead side) word more = either_way (λ (went : Went). IsUndone went.2) (nat_lt (w.bucket + 1) (half Shrink w.level)) _ _ tt tt
undone shape d w (stage.Grace then_do RaiseCounter) word more = tt
undone shape d w (stage.Grace then_do LoadSection) word more =
    let came = scanned shape.seats w.grace word in graces_undone (record w { grace = came.0; graces = w.graces }) then_do came.1
undone shape d w stage.StoreLevel word more = held_undone w.grace.raised
undone shape d w stage.ClearNewLevel word more = tt
undone shape d w stage.GiveResizeLock word more = absurd (more refl)

-- a work that is not done is left with what it has
left_heads : (p : Past) (i : ℕ) (r : Resize) (a : Option Answer) → IsUndone a → LockedAtMost p i (locked_in_work (Some (work.Resize r))) → LockedAtMost p i (locked_in_work (work_left (work.Resize r) a))
left_heads p i r None is has = has
left_heads p i r (Some (answer.Done did)) is has = absurd is
left_heads p i r (Some _) is has = has

left_slots : (p : Past) (i : ℕ) (r : Resize) (a : Option Answer) → UnlinkedAtMost p i [] → UnlinkedAtMost p i (waiting_of_work (work_left (work.Resize r) a))
left_slots p i r None has = has
left_slots p i r (Some (answer.Done did)) has = has
left_slots p i r (Some _) has = has

-- the heads that are left are those of the row that was left
in_front : (level n row bucket : ℕ) (heads : List (ℕ × ℕ)) → (is_held row bucket heads ≡ true → row ≡ level) → is_held row bucket ((level, n) ∷ heads) ≡ true → row ≡ level
in_front level n row bucket heads rest held = go (is_lock_of row bucket (level, n)) refl held
  where
    go : (x : Bool) → is_lock_of row bucket (level, n) ≡ x → cond x true (is_held row bucket heads) ≡ true → row ≡ level
    go true is held = (is_that row bucket level n is).0
    go false is held = rest held

of_row_left : (level n row bucket : ℕ) → is_held row bucket (row_left level n) ≡ true → row ≡ level
of_row_left level zero row bucket held = absurd (cc)
of_row_left level (suc n) row bucket held = in_front level n row bucket (row_left level n) (of_row_left level n row bucket) held

of_pairs_left : (level apart n row bucket : ℕ) → is_held row bucket (pairs_left level apart n) ≡ true → row ≡ level
of_pairs_left level apart zero row bucket held = absurd (cc)
of_pairs_left level apart (suc n) row bucket held =
    in_front level (n + apart) row bucket ((level, n) ∷ pairs_left level apart n) (in_front level n row bucket (pairs_left level apart n) (of_pairs_left level apart n row bucket)) held

of_old : (d : Direction) (level bucket r b : ℕ) → is_held r b (old_heads d level bucket) ≡ true → r ≡ level
of_old Grow level bucket r b held = in_front level bucket r b (row_left level bucket) (of_row_left level bucket r b) held
of_old Shrink level bucket r b held = in_front level (bucket + half Shrink level) r b ((level, bucket) ∷ pairs_left level (half Shrink level) bucket)
    (in_front level bucket r b (pairs_left level (half Shrink level) bucket) (of_pairs_left level (half Shrink level) bucket r b)) held

-- at its end a resize is at the level to which it led, which is another
ends_at : (m : Memory) (n : Now) (f : Flow) (i : ℕ) (d : Direction) (w : ResizeAlong) → KnowsResize m n f i d w stage.GiveResizeLock
    → (level : ℕ) × Resizing n f i level Quiet NoHead × (level ≢ w.level)
ends_at m n f i Grow w h = (w.level + 1, h, λ e. omega (arith, e))
ends_at m n f i Shrink w h = let up : w.level ≡ h.0 + 1 = h.1 in (h.0, h.2, λ e. omega (arith, up, e))

-- so that it has locked no head
none_locked : (m : Memory) (p : Past) (f : Flow) (i : ℕ) (d : Direction) (w : ResizeAlong) → KnowsResize m p.now f i d w stage.GiveResizeLock → LockedAtMost p i (locked_heads d w stage.GiveResizeLock)
    → (row bucket : ℕ) → p.now.lock row bucket ≡ Some i → ⊥
none_locked m p f i d w h has row bucket lock =
    let (level, at, other) = ends_at m p.now f i d w h in
    let old : row ≡ w.level = of_old d w.level w.bucket row bucket (has row bucket lock) in
    let off : ¬ (row ≡ level) = λ e. other (sym e ∙ old) in
    let free : p.now.lock row bucket ≡ None = free_at p.now f i level row bucket Quiet NoHead at (λ used. elim used [ inl a ↦ off a.0 | inr a ↦ a.1 ]) (λ no. no) (λ e. absurd (off e)) in
    let clash : None ≡ Some i = sym free ∙ lock in
    absurd (cc)

-- after a step of a poll of a resize
pub resize_has : (m : Memory) (p : Past) (f : Flow) (i : ℕ) (caller : Caller) (r : Resize) (word : ℕ) → IsSoundResize caller.shape r.direction r.along r.stage
    → KnowsResize m p.now f i r.direction r.along r.stage → Owes p i (doing.Running (machine.Poll (polling caller (work.Resize r, None))))
    → HasAtMost (told p i (poll_event (polling caller (work.Resize r, None)) word)) i (doing.Running (machine.Poll (poll_got (polling caller (work.Resize r, None)) word)))
resize_has m p f i caller r word sound h owes =
    let does = resize_row caller.shape r.direction r.along r.stage in
    let e : Option What = event_of [] does.step word in
    let went : Went = does.next word in
    let quiet : HasNoClaim e × HasNoUnlink e = resize_quiet_event caller.shape r.direction r.along r.stage word in
    record {
      claimed = claimed_stays p i e None quiet.0 owes.claimed;
      unlinked = left_slots (told p i e) i (record r { along = went.0; stage = went.1 }) went.2 (waits_stay p i e [] quiet.1 owes.unlinked);
      locked = elim (last_or_not r.stage) [
        | inl last ↦ subst (λ (s : ResizeStage). LockedAtMost (told p i (event_of [] (resize_row caller.shape r.direction r.along s).step word)) i
            (let came = (resize_row caller.shape r.direction r.along s).next word in locked_in_work (work_left (work.Resize (record r { along = came.0; stage = came.1 })) came.2))) (sym last)
            (λ row bucket lock. absurd (none_locked m p f i r.direction r.along (subst (KnowsResize m p.now f i r.direction r.along) last h)
            (subst (λ (s : ResizeStage). LockedAtMost p i (locked_heads r.direction r.along s)) last owes.locked) row bucket lock))
        | inr more ↦ left_heads (told p i e) i (record r { along = went.0; stage = went.1 }) went.2 (undone caller.shape r.direction r.along r.stage word more)
            (heads_after p i e (locked_heads r.direction r.along r.stage) (locked_heads r.direction went.0 went.1) owes.locked (heads_step caller.shape r.direction r.along r.stage word sound))
      ];
    }
