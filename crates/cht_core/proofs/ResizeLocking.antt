-- What a resize knows after a step that locks an old head.
use Rattle.std.proofs.Common.{◌≡◌, ◌≢◌, ℕ, ◌+◌, ◌-◌, ◌^◌, ◌<◌, Bool, true, false, cond, List, Option, Some, None, refl, sym, ap, subst, ◌∙◌, inl, inr, arith}
use Rattle.std.specs.Prelude.{◌==◌}
use Rattle.std.proofs.lemmas.Bool.{eqb-true}
use Rattle.marked_word.specs.Head.{is_locked, first_of, locked}
use Rattle.table_shape.specs.declared.place.Place.TheVariants as place
use Rattle.intern_log.specs.declared.event.What.TheVariants as what
use Rattle.intern_log.specs.Now.{Now}
use Rattle.atomic_step.specs.declared.step.Step.TheVariants as step
use Rattle.atomic_step.specs.SoundStep.{IsSoundStep}
use Rattle.atomic_step.specs.Step.{locked_head}
use Rattle.call_machine.specs.declared.lock.LockStage.{LockStage}
use Rattle.call_machine.specs.declared.lock.LockStage.TheVariants as lock
use Rattle.call_machine.specs.declared.lock.Locking.{Locking}
use Rattle.call_machine.specs.declared.lock.Locking.TheVariants as locking
use Rattle.call_machine.specs.declared.resize.Direction.TheVariants.{Grow, Shrink}
use Rattle.call_machine.specs.declared.resize.ResizeAlong.{ResizeAlong}
use Rattle.call_machine.specs.declared.resize.ResizeStage.TheVariants as stage
use Rattle.call_machine.specs.declared.resize.Side.TheVariants.{Even, Odd}
use Rattle.call_machine.specs.Lock.{lock_row}
use Rattle.call_machine.specs.Resize.{Went, locks_on}
use Rattle.cht_core.specs.declared.table.Table.{Table}
use Rattle.cht_core.specs.Flow.{Flow, IsUsed, holds_after}
use Rattle.cht_core.specs.KnowsResize.{NoHead, Resizing, HasLocked, KnowsGrow, KnowsShrink, evens}
use Rattle.cht_core.specs.Memory.{Memory, IsMade, found}
use Rattle.cht_core.specs.Past.{Past, told}
use Rattle.cht_core.specs.Stage.{Stage, Growing, Shrinking}
use Rattle.cht_core.specs.TableState.{IsTable}
use Rattle.cht_core.proofs.Basics.{after_load}
use Rattle.cht_core.proofs.Buckets.{lock_here, lock_elsewhere}
use Rattle.cht_core.proofs.HeadWords.{first_of_head, lock_set}
use Rattle.cht_core.proofs.ResizeParts.{IsUsedAt, resizing_on, lock_owner, free_after_lock, locked_apart, other_buckets, open_word}
use Rattle.cht_core.proofs.ResizeUsed.{left_used, even_used, pair_below}
use Rattle.cht_core.proofs.Turns.{past_by, flow_of}

-- the resize goes on as one of its old heads is locked
pub resizing_locks : (f f' : Flow) (p : Past) (i level row bucket : ℕ) (st : Stage) → IsUsedAt level st row bucket → f'.stage ≡ st → Resizing p.now f i level st NoHead
    → Resizing (told p i (Some (what.Lock row bucket))).now f' i level st NoHead
resizing_locks f f' p i level row bucket st used same h =
    resizing_on p.now (told p i (Some (what.Lock row bucket))).now f f' i level st st NoHead NoHead h (lock_owner i row p.now.resizing) refl same
    (λ r b is comes. inl (is, comes)) (λ r b no. absurd no)
    (λ r b unused out free. free_after_lock p.now.lock row bucket r b (Some i) (λ rows buckets. unused (subst (λ (x : ℕ). IsUsedAt level st x b) (sym rows) (subst (λ (x : ℕ). IsUsedAt level st row x) (sym buckets) used))) free)

-- what came of a step that locks
abbrev pub HasCome : Memory → Now → ℕ → ℕ → ℕ → Locking → Type 0
HasCome m n i row bucket (locking.Locked first) = HasLocked m n i row bucket first
HasCome m n i row bucket _ = Unit {0}

module _ (t : Table) (m m' : Memory) (p : Past) (f : Flow) (i : ℕ) (text : List ℕ) (table : IsTable t m p f) (level row bucket : ℕ) (st : Stage) (h : Resizing p.now f i level st NoHead)
    (used_here : IsUsedAt level st row bucket) (used : IsUsed p.now f row bucket) where
  -- after a step of this stage: the resize goes on, what came of it, and the locked heads of other buckets
  abbrev pub After : LockStage → Type 0
  After s =
      let p' = past_by p i text (lock_row row bucket s).step m in
      Resizing p'.now (flow_of p f i text (lock_row row bucket s).step m) i level st NoHead
      × HasCome m' p'.now i row bucket ((lock_row row bucket s).next (found (lock_row row bucket s).step m))
      × ((b : ℕ) (first : Option ℕ) → b ≢ bucket → HasLocked m p.now i row b first → HasLocked m' p'.now i row b first)

  exchange : (head : ℕ) → is_locked head ≡ false → IsMade (step.LockHead row bucket head) m m' → (b : Bool) → (m (place.Head row bucket) == head) ≡ b →
      let e = cond b (Some (what.Lock row bucket)) None in
      Resizing (told p i e).now (record f { holds = holds_after i e f.holds }) i level st NoHead
      × HasCome m' (told p i e).now i row bucket (cond b (locking.Locked (first_of (m (place.Head row bucket)))) locking.Waits)
      × ((c : ℕ) (first : Option ℕ) → c ≢ bucket → HasLocked m p.now i row c first → HasLocked m' (told p i e).now i row c first)
  exchange head open_head made false other =
      (h, tt, λ c first differ at. locked_apart m m' p.now p.now i row c first (step.LockHead row bucket head) made (other_buckets row bucket row c differ) refl at)
  exchange head open_head made true met =
      let word : m (place.Head row bucket) ≡ head = eqb-true (m (place.Head row bucket)) head met in
      let was = open_word t m p f row bucket head table used word open_head in
      let first : first_of (m (place.Head row bucket)) ≡ was.0 = ap first_of (word ∙ was.1) ∙ first_of_head was.0 None in (
        resizing_locks f (record f { holds = holds_after i (Some (what.Lock row bucket)) f.holds }) p i level row bucket st used_here h.at_stage h,
        (
          lock_here p.now.lock row bucket (Some i) row bucket refl refl,
          made.here ∙ ap (λ b. cond b (locked head) (m (place.Head row bucket))) met ∙ ap locked was.1 ∙ lock_set was.0 i ∙ ap locked_head (sym first),
        ),
        λ c first differ at. locked_apart m m' p.now (told p i (Some (what.Lock row bucket))).now i row c first (step.LockHead row bucket head) made (other_buckets row bucket row c differ)
            (lock_elsewhere p.now.lock row bucket (Some i) row c (λ rows buckets. differ buckets)) at,
      )

  -- a head that was locked is waited for
  loads : (b : Bool) → HasCome m' p.now i row bucket (cond b locking.Waits (locking.Goes (lock.LockHead (m (place.Head row bucket)))))
  loads true = tt
  loads false = tt

  pub lock_comes : (s : LockStage) → IsSoundStep t.shape i (lock_row row bucket s).step → IsMade (lock_row row bucket s).step m m' → After s
  lock_comes lock.LoadHead sound made = (
    h,
    loads (is_locked (m (place.Head row bucket))),
    λ b first differ at. subst (λ (now : Memory). HasLocked now p.now i row b first) (sym (after_load (step.LoadHead row bucket) m m' refl made)) at,
  )
  lock_comes (lock.LockHead head) sound made = exchange head sound.1 made (m (place.Head row bucket) == head) refl

-- A GROW

abbrev GrowWent : Memory → Past → Flow → ℕ → Went → Type 0
GrowWent m p f i came = KnowsGrow m p.now f i came.0 came.1

grow_locked : (m : Memory) (p : Past) (f : Flow) (i : ℕ) (w : ResizeAlong) (came : Locking) → w.bucket < 2 ^ w.level → Resizing p.now f i w.level (Growing w.bucket) NoHead
    → HasCome m p.now i w.level w.bucket came → GrowWent m p f i (locks_on Grow w Even came)
grow_locked m p f i w (locking.Goes s) below h has = (below, h)
grow_locked m p f i w locking.Waits below h has = (below, h)
grow_locked m p f i w (locking.Locked first) below h has = (below, has, refl, h)

pub grow_locks : (t : Table) (m m' : Memory) (p : Past) (f : Flow) (i : ℕ) (text : List ℕ) (w : ResizeAlong) (s : LockStage) → IsTable t m p f → KnowsGrow m p.now f i w (stage.Lock Even s)
    → IsSoundStep t.shape i (lock_row w.level w.bucket s).step → IsMade (lock_row w.level w.bucket s).step m m'
    → GrowWent m' (past_by p i text (lock_row w.level w.bucket s).step m) (flow_of p f i text (lock_row w.level w.bucket s).step m) i
    (locks_on Grow w Even ((lock_row w.level w.bucket s).next (found (lock_row w.level w.bucket s).step m)))
grow_locks t m m' p f i text w s table known sound made =
    let after = lock_comes t m m' p f i text table w.level w.level w.bucket (Growing w.bucket) known.1 (inl (refl, omega arith, known.0))
    (left_used p.now f i w.level w.bucket (Growing w.bucket) NoHead known.1 (omega arith) known.0) s sound made in
    grow_locked m' (past_by p i text (lock_row w.level w.bucket s).step m) (flow_of p f i text (lock_row w.level w.bucket s).step m) i w
    ((lock_row w.level w.bucket s).next (found (lock_row w.level w.bucket s).step m)) known.0 after.0 after.1

-- A SHRINK

abbrev ShrinkWent : Memory → Past → Flow → ℕ → ℕ → Went → Type 0
ShrinkWent m p f i k came = KnowsShrink m p.now f i k came.0 came.1

even_locked : (m : Memory) (p : Past) (f : Flow) (i k : ℕ) (w : ResizeAlong) (came : Locking) → w.bucket < 2 ^ k → Resizing p.now f i (k + 1) (Shrinking k w.bucket) NoHead
    → HasCome m p.now i (k + 1) w.bucket came → ShrinkWent m p f i k (locks_on Shrink w Even came)
even_locked m p f i k w (locking.Goes s) below h has = (below, h)
even_locked m p f i k w locking.Waits below h has = (below, h)
even_locked m p f i k w (locking.Locked first) below h has = (below, has, h)

odd_locked : (m : Memory) (p : Past) (f : Flow) (i k : ℕ) (w : ResizeAlong) (came : Locking) → w.bucket < 2 ^ k → HasLocked m p.now i (k + 1) w.bucket (evens w)
    → Resizing p.now f i (k + 1) (Shrinking k w.bucket) NoHead → HasCome m p.now i (k + 1) (w.bucket + 2 ^ k) came → ShrinkWent m p f i k (locks_on Shrink w Odd came)
odd_locked m p f i k w (locking.Goes s) below low h has = (below, low, h)
odd_locked m p f i k w locking.Waits below low h has = (below, low, h)
odd_locked m p f i k w (locking.Locked first) below low h has = record { below = below; low = low; high = has; resizing = h }

module _ (t : Table) (m m' : Memory) (p : Past) (f : Flow) (i : ℕ) (text : List ℕ) (k : ℕ) (w : ResizeAlong) (s : LockStage) (table : IsTable t m p f) where
  -- with the row and the bucket as the machine has them
  abbrev pub ShrinkLocks : ℕ → ℕ → (Locking → Went) → Type 0
  ShrinkLocks row bucket on = IsSoundStep t.shape i (lock_row row bucket s).step → IsMade (lock_row row bucket s).step m m'
      → ShrinkWent m' (past_by p i text (lock_row row bucket s).step m) (flow_of p f i text (lock_row row bucket s).step m) i k (on ((lock_row row bucket s).next (found (lock_row row bucket s).step m)))

  pub even_locks : w.level ≡ k + 1 → KnowsShrink m p.now f i k w (stage.Lock Even s) → ShrinkLocks w.level w.bucket (locks_on Shrink w Even)
  even_locks level known = subst (λ (r : ℕ). ShrinkLocks r w.bucket (locks_on Shrink w Even)) (sym level) (λ sound made.
      let after = lock_comes t m m' p f i text table (k + 1) (k + 1) w.bucket (Shrinking k w.bucket) known.1 (inl (refl, (omega arith, inl known.0), (pair_below k w.bucket known.0).0))
      (even_used p.now f i k w.bucket NoHead known.1 known.0) s sound made in
      even_locked m' (past_by p i text (lock_row (k + 1) w.bucket s).step m) (flow_of p f i text (lock_row (k + 1) w.bucket s).step m) i k w
      ((lock_row (k + 1) w.bucket s).next (found (lock_row (k + 1) w.bucket s).step m)) known.0 after.0 after.1)

  pub odd_locks : w.level ≡ k + 1 → KnowsShrink m p.now f i k w (stage.Lock Odd s) → ShrinkLocks w.level (w.bucket + 2 ^ (w.level - 1)) (locks_on Shrink w Odd)
  odd_locks level known =
      let less : w.level - 1 ≡ k = omega (arith, level) in
      subst (λ (r : ℕ). ShrinkLocks r (w.bucket + 2 ^ (w.level - 1)) (locks_on Shrink w Odd)) (sym level)
      (subst (λ (c : ℕ). ShrinkLocks (k + 1) (w.bucket + 2 ^ c) (locks_on Shrink w Odd)) (sym less) (λ sound made.
      let size : 0 < 2 ^ k = omega (arith, known.0) in
      let bucket : ℕ = w.bucket + 2 ^ k in
      let after = lock_comes t m m' p f i text table (k + 1) (k + 1) bucket (Shrinking k w.bucket) known.2 (inl (refl, (omega arith, inr (omega arith)), (pair_below k w.bucket known.0).1))
      (left_used p.now f i (k + 1) bucket (Shrinking k w.bucket) NoHead known.2 (omega arith, inr (omega arith)) (pair_below k w.bucket known.0).1) s sound made in
      odd_locked m' (past_by p i text (lock_row (k + 1) bucket s).step m) (flow_of p f i text (lock_row (k + 1) bucket s).step m) i k w
      ((lock_row (k + 1) bucket s).next (found (lock_row (k + 1) bucket s).step m)) known.0 (after.2 w.bucket (evens w) (λ e. omega (arith, size, e)) known.1) after.0 after.1))
