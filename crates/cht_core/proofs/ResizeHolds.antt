-- What a grow or a shrink knows does not turn on who holds which handle.
use Rattle.std.proofs.Common.{ℕ, ◌+◌, ◌^◌, List, Option, Some, None}
use Rattle.intern_log.specs.declared.event.Handle.{Handle}
use Rattle.intern_log.specs.Now.{Now}
use Rattle.call_machine.specs.declared.grace.Grace as graces
use Rattle.call_machine.specs.declared.grace.GraceStage.{GraceStage}
use Rattle.call_machine.specs.declared.grace.GraceStage.TheVariants.{RaiseCounter, LoadSection}
use Rattle.call_machine.specs.declared.resize.AfterGrace.TheVariants as after
use Rattle.call_machine.specs.declared.resize.Chain.{Chain}
use Rattle.call_machine.specs.declared.resize.Chains.{Chains}
use Rattle.call_machine.specs.declared.resize.Direction.{Direction}
use Rattle.call_machine.specs.declared.resize.Direction.TheVariants.{Grow, Shrink}
use Rattle.call_machine.specs.declared.resize.JoinStage.TheVariants as join
use Rattle.call_machine.specs.declared.resize.ResizeAlong.{ResizeAlong}
use Rattle.call_machine.specs.declared.resize.ResizeStage.{ResizeStage}
use Rattle.call_machine.specs.declared.resize.ResizeStage.TheVariants.{PutNewLevel, Lock, PutHead, RedirectHead, Unzip, Join, UnlockHead, Grace, StoreLevel, ClearNewLevel, GiveResizeLock}
use Rattle.call_machine.specs.declared.resize.Side.TheVariants.{Even, Odd}
use Rattle.call_machine.specs.declared.resize.UnzipStage.TheVariants as unzip
use Rattle.call_machine.specs.Resize.{joined_first}
use Rattle.cht_core.specs.Flow.{Flow}
use Rattle.cht_core.specs.KnowsResize.{NoHead, OneHead, TwoHeads, Resizing, Grade, Over, Raising, Until, IsReady, Side, Unzipping, Joint, Pair, HasPair, HasOpened, KnowsLast, KnowsGrow, KnowsShrink, KnowsResize, evens, odds}
use Rattle.cht_core.specs.Memory.{Memory}
use Rattle.cht_core.specs.Stage.{Stage, Quiet, Growing, Splitting, Shrinking, Joining, Turning, Closing}

module _ (m : Memory) (n : Now) (f : Flow) (holds : ℕ → Handle → ℕ) (i : ℕ) where
  abbrev after_holds : Flow
  after_holds = record f { holds = holds }

  resizing_holds : (level : ℕ) (st : Stage) (except : ℕ → ℕ → Type 0) → Resizing n f i level st except → Resizing n after_holds i level st except
  resizing_holds level st except h = record { owner = h.owner; at_level = h.at_level; at_stage = h.at_stage; free = h.free }

  ready_holds : (grade : Grade) (s : ℕ) → IsReady n f grade s → IsReady n after_holds grade s
  ready_holds Over s h = h
  ready_holds (Raising x) s h = h
  ready_holds (Until x at) s h = h

  side_holds : (level b : ℕ) (chain : Chain) (rest : List ℕ) (grade : Grade) → Side m n f i level b chain rest grade → Side m n after_holds i level b chain rest grade
  side_holds level b chain rest grade h = record {
    own = h.own;
    order = h.order;
    locked = h.locked;
    last = h.last;
    mine = λ s on. let k = h.mine s on in (k.0, k.1, k.2, k.3, k.4, ready_holds grade s k.5);
  }

  unzipping_holds : (level b : ℕ) (chains : Chains) (first : Option ℕ) (grade : Grade) → Unzipping m n f i level b chains first grade → Unzipping m n after_holds i level b chains first grade
  unfolding side_holds
  unzipping_holds level b chains first grade h = record {
    done = h.done;
    rest = h.rest;
    path = h.path;
    even = side_holds level b chains.even h.rest grade h.even;
    odd = side_holds level (b + 2 ^ level) chains.odd h.rest grade h.odd;
    even_is = h.even_is;
    odd_is = h.odd_is;
    latest = h.latest;
    below = h.below;
    resizing = resizing_holds level (Splitting b) NoHead h.resizing;
  }

  pair_holds : (k b : ℕ) (even odd : Option ℕ) (st : Stage) (except : ℕ → ℕ → Type 0) → Pair m n f i k b even odd st except → Pair m n after_holds i k b even odd st except
  pair_holds k b even odd st except h = record { below = h.below; low = h.low; high = h.high; resizing = resizing_holds (k + 1) st except h.resizing }

  has_pair_holds : (k b : ℕ) (even odd : Option ℕ) (st : Stage) → HasPair m n f i k b even odd st → HasPair m n after_holds i k b even odd st
  has_pair_holds k b even odd st h = (pair_holds k b even odd st (OneHead k b) h.0, h.1)

  joint_holds : (k b : ℕ) (first : Option ℕ) → Joint m f k b first → Joint m after_holds k b first
  joint_holds k b first h = record { whole = h.whole; evens = h.evens; order = h.order; path = h.path; once = h.once; even = h.even; odd = h.odd; back = h.back }

  last_holds : (level : ℕ) (r : graces.Grace) (s : GraceStage) → KnowsLast n f i level r s → KnowsLast n after_holds i level r s
  last_holds level r RaiseCounter h = resizing_holds level Closing NoHead h
  last_holds level r LoadSection h = (resizing_holds level Closing NoHead h.0, h.1)

  grow_holds : (w : ResizeAlong) (s : ResizeStage) → KnowsGrow m n f i w s → KnowsGrow m n after_holds i w s
  grow_holds w PutNewLevel h = resizing_holds w.level Quiet NoHead h
  grow_holds w (Lock side s) h = (h.0, resizing_holds w.level (Growing w.bucket) NoHead h.1)
  grow_holds w (PutHead Even) h = (h.0, h.1, h.2, resizing_holds w.level (Growing w.bucket) NoHead h.3)
  grow_holds w (PutHead Odd) h = (h.0, h.1, h.2, h.3, resizing_holds w.level (Growing w.bucket) (OneHead (w.level + 1) w.bucket) h.4)
  grow_holds w (RedirectHead side) h =
      (h.0, (h.1.0, h.1.1, h.1.2, h.1.3, resizing_holds w.level (Growing w.bucket) (TwoHeads (w.level + 1) w.bucket (w.bucket + 2 ^ w.level)) h.1.4))
  grow_holds w (Unzip (unzip.LoadMeta x)) h = unzipping_holds w.level w.bucket w.chains (Some x) Over h
  grow_holds w (Unzip (unzip.LoadLink x side)) h = (unzipping_holds w.level w.bucket w.chains (Some x) Over h.0, h.1)
  grow_holds w (Unzip (unzip.MoveEdge x side next)) h = (unzipping_holds w.level w.bucket w.chains (Some x) Over h.0, h.1, h.2)
  grow_holds w (Join s) h = absurd h
  grow_holds w (UnlockHead Even) h = unzipping_holds w.level w.bucket w.chains None Over h
  grow_holds w (UnlockHead Odd) h = (h.0, h.1, resizing_holds w.level (Growing (w.bucket + 1)) NoHead h.2)
  grow_holds w (Grace after.Unzip RaiseCounter) h = (h.0, unzipping_holds w.level w.bucket w.chains w.rest (Raising h.0) h.1, h.2)
  grow_holds w (Grace after.Unzip LoadSection) h = (h.0, h.1, unzipping_holds w.level w.bucket w.chains w.rest (Until h.0 h.1) h.2, h.3)
  grow_holds w (Grace after.UnlockHead s) h = absurd h
  grow_holds w (Grace after.ClearNewLevel s) h = last_holds (w.level + 1) w.grace s h
  grow_holds w StoreLevel h = resizing_holds w.level (Growing (2 ^ w.level)) NoHead h
  grow_holds w ClearNewLevel h = (resizing_holds (w.level + 1) Closing NoHead h.0, h.1)
  grow_holds w GiveResizeLock h = resizing_holds (w.level + 1) Quiet NoHead h

  opened_holds : (k b : ℕ) (first : Option ℕ) → HasOpened m n f i k b first → HasOpened m n after_holds i k b first
  opened_holds k b first h = (h.0, h.1, resizing_holds (k + 1) (Shrinking k (b + 1)) NoHead h.2)

  shrink_holds : (k : ℕ) (w : ResizeAlong) (s : ResizeStage) → KnowsShrink m n f i k w s → KnowsShrink m n after_holds i k w s
  shrink_holds k w PutNewLevel h = resizing_holds (k + 1) Quiet NoHead h
  shrink_holds k w (Lock Even s) h = (h.0, resizing_holds (k + 1) (Shrinking k w.bucket) NoHead h.1)
  shrink_holds k w (Lock Odd s) h = (h.0, h.1, resizing_holds (k + 1) (Shrinking k w.bucket) NoHead h.2)
  shrink_holds k w (PutHead side) h = pair_holds k w.bucket (evens w) (odds w) (Shrinking k w.bucket) NoHead h
  shrink_holds k w (RedirectHead Even) h = (has_pair_holds k w.bucket (evens w) (odds w) (Joining k w.bucket) h.0, joint_holds k w.bucket (joined_first (evens w) (odds w)) h.1)
  shrink_holds k w (RedirectHead Odd) h = (h.0, h.1, h.2, resizing_holds (k + 1) (Turning k w.bucket) NoHead h.3, h.4)
  shrink_holds k w (Unzip s) h = absurd h
  shrink_holds k w (Join (join.LoadLink x)) h = (has_pair_holds k w.bucket (evens w) (odds w) (Shrinking k w.bucket) h.0, h.1)
  shrink_holds k w (Join (join.JoinChains x)) h = (has_pair_holds k w.bucket (evens w) (odds w) (Shrinking k w.bucket) h.0, h.1, h.2)
  shrink_holds k w (UnlockHead side) h = opened_holds k w.bucket (joined_first (evens w) (odds w)) h
  shrink_holds k w (Grace after.Unzip s) h = absurd h
  shrink_holds k w (Grace after.UnlockHead s) h = opened_holds k w.bucket (joined_first (evens w) (odds w)) h
  shrink_holds k w (Grace after.ClearNewLevel s) h = last_holds k w.grace s h
  shrink_holds k w StoreLevel h = resizing_holds (k + 1) (Shrinking k (2 ^ k)) NoHead h
  shrink_holds k w ClearNewLevel h = (resizing_holds k Closing NoHead h.0, h.1)
  shrink_holds k w GiveResizeLock h = resizing_holds k Quiet NoHead h

  pub resize_with_holds : (d : Direction) (w : ResizeAlong) (s : ResizeStage) → KnowsResize m n f i d w s → KnowsResize m n after_holds i d w s
  resize_with_holds Grow w s h = grow_holds w s h
  resize_with_holds Shrink w s h = (h.0, h.1, shrink_holds h.0 w s h.2)
