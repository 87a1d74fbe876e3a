-- What a resize knows after it unlocks a new head: the other one of a bucket is next, or the next bucket or pair, or the level.
use Rattle.std.proofs.Common.{◌≡◌, ◌≢◌, ℕ, ◌+◌, ◌-◌, ◌^◌, ◌<◌, ◌≤◌, Bool, true, false, List, Option, Some, None, refl, sym, ap, subst, ◌∙◌, inl, arith}
use Rattle.std.specs.Prelude.{◌&&◌, nat_eq, nat_lt, if◌then◌else◌}
use Rattle.std.proofs.lemmas.Bool.{eq-eqb, ltb-true, ltb-false}
use Rattle.intern_log.specs.declared.event.What.TheVariants as what
use Rattle.intern_log.specs.Now.{Now}
use Rattle.atomic_step.specs.declared.step.Step.TheVariants as step
use Rattle.call_machine.specs.declared.lock.LockStage.TheVariants as lock
use Rattle.call_machine.specs.declared.resize.Direction.TheVariants.{Grow, Shrink}
use Rattle.call_machine.specs.declared.resize.ResizeAlong.{ResizeAlong}
use Rattle.call_machine.specs.declared.resize.ResizeStage.TheVariants as stage
use Rattle.call_machine.specs.declared.resize.Side.TheVariants.{Even, Odd}
use Rattle.call_machine.specs.Resize.{goes, next_pair}
use Rattle.cht_core.specs.Flow.{Flow, stage_unlocked}
use Rattle.cht_core.specs.KnowsResize.{NoHead, Resizing, HasOpened, KnowsGrow, KnowsShrink, odds}
use Rattle.cht_core.specs.Memory.{Memory, IsMade}
use Rattle.cht_core.specs.Past.{Past, told}
use Rattle.cht_core.specs.Stage.{Stage, Growing, Splitting, Shrinking}
use Rattle.cht_core.proofs.Buckets.{lock_elsewhere}
use Rattle.cht_core.proofs.ResizeParts.{resizing_on, free_after_unlock, locked_apart, other_buckets}
use Rattle.cht_core.proofs.Turns.{flow_of}

module _ (m : Memory) (p : Past) (f : Flow) (i : ℕ) (text : List ℕ) (row bucket : ℕ) (first : Option ℕ) where
  abbrev pub open_past : Past
  open_past = told p i (Some (what.Unlock row bucket))

  abbrev pub open_flow : Flow
  open_flow = flow_of p f i text (step.UnlockHead row bucket first) m

  -- the resize goes on where the stage does
  pub resizing_opens : (level : ℕ) (st : Stage) → stage_unlocked p.now.level row bucket st ≡ st → Resizing p.now f i level st NoHead → Resizing open_past.now open_flow i level st NoHead
  resizing_opens level st same h = resizing_on p.now open_past.now f open_flow i level st st NoHead NoHead h refl refl (ap (stage_unlocked p.now.level row bucket) h.at_stage ∙ same)
      (λ r b is comes. inl (is, comes)) (λ r b no. absurd no) (λ r b unused out free. free_after_unlock p.now.lock row bucket r b free)

-- the first new head of a bucket
ends_split : (level l b : ℕ) → l ≡ level → stage_unlocked l (level + 1) b (Splitting b) ≡ Growing (b + 1)
ends_split level l b e =
    ap (λ (x : Bool). if x && nat_eq b b then Growing (b + 1) else Splitting b) (eq-eqb (level + 1) (l + 1) (ap (λ (x : ℕ). x + 1) (sym e)))
    ∙ ap (λ (x : Bool). if true && x then Growing (b + 1) else Splitting b) (eq-eqb b b refl)

pub grow_opens_even : (m m' : Memory) (p : Past) (f : Flow) (i : ℕ) (text : List ℕ) (w : ResizeAlong) (first : Option ℕ) → KnowsGrow m p.now f i w (stage.UnlockHead Even)
    → IsMade (step.UnlockHead (w.level + 1) w.bucket first) m m'
    → KnowsGrow m' (told p i (Some (what.Unlock (w.level + 1) w.bucket))).now (flow_of p f i text (step.UnlockHead (w.level + 1) w.bucket first) m) i w (stage.UnlockHead Odd)
grow_opens_even m m' p f i text w first u made =
    let size : 0 < 2 ^ w.level = omega (arith, u.below) in
    let off : w.bucket + 2 ^ w.level ≢ w.bucket = λ e. omega (arith, size, e) in (
      u.below,
      locked_apart m m' p.now (told p i (Some (what.Unlock (w.level + 1) w.bucket))).now i (w.level + 1) (w.bucket + 2 ^ w.level) (odds w) (step.UnlockHead (w.level + 1) w.bucket first) made
          (other_buckets (w.level + 1) w.bucket (w.level + 1) (w.bucket + 2 ^ w.level) off)
          (lock_elsewhere p.now.lock (w.level + 1) w.bucket None (w.level + 1) (w.bucket + 2 ^ w.level) (λ rows buckets. off buckets)) u.odd.locked,
      resizing_on p.now (told p i (Some (what.Unlock (w.level + 1) w.bucket))).now f (flow_of p f i text (step.UnlockHead (w.level + 1) w.bucket first) m) i w.level (Splitting w.bucket)
          (Growing (w.bucket + 1)) NoHead NoHead u.resizing refl refl (ap (stage_unlocked p.now.level (w.level + 1) w.bucket) u.resizing.at_stage ∙ ends_split w.level p.now.level w.bucket u.resizing.at_level)
          (λ r b is comes. inl (is, comes)) (λ r b no. absurd no) (λ r b unused out free. free_after_unlock p.now.lock (w.level + 1) w.bucket r b free),
    )

-- the next bucket, or the level
grow_next : (m : Memory) (n : Now) (f : Flow) (i : ℕ) (w : ResizeAlong) → w.bucket < 2 ^ w.level → Resizing n f i w.level (Growing (w.bucket + 1)) NoHead
    → KnowsGrow m n f i (next_pair Grow w).0 (next_pair Grow w).1
grow_next m n f i w below h = by_test (nat_lt (w.bucket + 1) (2 ^ w.level)) refl
  where
    by_test : (more : Bool) → nat_lt (w.bucket + 1) (2 ^ w.level) ≡ more → let came = (if more then goes (record w { bucket = w.bucket + 1; passed = 0 }) (stage.Lock Even lock.LoadHead) else goes w stage.StoreLevel) in
        KnowsGrow m n f i came.0 came.1
    by_test true is = (ltb-true (w.bucket + 1) (2 ^ w.level) is, h)
    by_test false is =
        let past : 2 ^ w.level ≤ w.bucket + 1 = ltb-false (w.bucket + 1) (2 ^ w.level) is in
        let end : w.bucket + 1 ≡ 2 ^ w.level = omega (arith, below, past) in
        subst (λ (d : ℕ). Resizing n f i w.level (Growing d) NoHead) end h

pub grow_opens_odd : (m m' : Memory) (p : Past) (f : Flow) (i : ℕ) (text : List ℕ) (w : ResizeAlong) (first : Option ℕ) → KnowsGrow m p.now f i w (stage.UnlockHead Odd)
    → KnowsGrow m' (told p i (Some (what.Unlock (w.level + 1) (w.bucket + 2 ^ w.level)))).now (flow_of p f i text (step.UnlockHead (w.level + 1) (w.bucket + 2 ^ w.level) first) m) i
    (next_pair Grow w).0 (next_pair Grow w).1
grow_opens_odd m m' p f i text w first h = grow_next m' (told p i (Some (what.Unlock (w.level + 1) (w.bucket + 2 ^ w.level)))).now
    (flow_of p f i text (step.UnlockHead (w.level + 1) (w.bucket + 2 ^ w.level) first) m) i w h.0
    (resizing_opens m p f i text (w.level + 1) (w.bucket + 2 ^ w.level) first w.level (Growing (w.bucket + 1)) refl h.2)

-- the next pair, or the level
shrink_next : (m : Memory) (n : Now) (f : Flow) (i k : ℕ) (w : ResizeAlong) → w.level ≡ k + 1 → w.bucket < 2 ^ k → Resizing n f i (k + 1) (Shrinking k (w.bucket + 1)) NoHead
    → KnowsShrink m n f i k (next_pair Shrink w).0 (next_pair Shrink w).1
shrink_next m n f i k w level below h = by_test (nat_lt (w.bucket + 1) (2 ^ (w.level - 1))) refl
  where
    half_is : 2 ^ (w.level - 1) ≡ 2 ^ k
    half_is = ap (λ (x : ℕ). 2 ^ x) (let less : w.level - 1 ≡ k = omega (arith, level) in less)

    by_test : (more : Bool) → nat_lt (w.bucket + 1) (2 ^ (w.level - 1)) ≡ more → let came = (if more then goes (record w { bucket = w.bucket + 1; passed = 0 }) (stage.Lock Even lock.LoadHead) else goes w stage.StoreLevel) in
        KnowsShrink m n f i k came.0 came.1
    by_test true is = (subst (λ (size : ℕ). w.bucket + 1 < size) half_is (ltb-true (w.bucket + 1) (2 ^ (w.level - 1)) is), h)
    by_test false is =
        let past : 2 ^ k ≤ w.bucket + 1 = subst (λ (size : ℕ). size ≤ w.bucket + 1) half_is (ltb-false (w.bucket + 1) (2 ^ (w.level - 1)) is) in
        let end : w.bucket + 1 ≡ 2 ^ k = omega (arith, below, past) in
        subst (λ (d : ℕ). Resizing n f i (k + 1) (Shrinking k d) NoHead) end h

pub shrink_opens : (m m' : Memory) (p : Past) (f : Flow) (i : ℕ) (text : List ℕ) (k row : ℕ) (w : ResizeAlong) (first opened : Option ℕ) → w.level ≡ k + 1 → HasOpened m p.now f i k w.bucket opened
    → KnowsShrink m' (told p i (Some (what.Unlock row w.bucket))).now (flow_of p f i text (step.UnlockHead row w.bucket first) m) i k (next_pair Shrink w).0 (next_pair Shrink w).1
shrink_opens m m' p f i text k row w first opened level h = shrink_next m' (told p i (Some (what.Unlock row w.bucket))).now (flow_of p f i text (step.UnlockHead row w.bucket first) m) i k w level h.0
    (resizing_opens m p f i text row w.bucket first (k + 1) (Shrinking k (w.bucket + 1)) refl h.2)
