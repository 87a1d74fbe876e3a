-- The table backs each step of a grow or a shrink.
use Rattle.std.proofs.Common.{◌≡◌, ℕ, ◌+◌, ◌^◌, ◌<◌, ◌≤◌, ◌⊎◌, List, Option, Some, None, refl, sym, ap, subst, ◌∙◌, inl, inr, arith}
use Rattle.std.specs.Prelude.{◌-◌}
use Rattle.marked_word.specs.Link.{link_word}
use Rattle.table_shape.specs.declared.place.Place.TheVariants as place
use Rattle.intern_log.specs.Now.{Now, Unlinked, owner_of}
use Rattle.atomic_step.specs.SoundStep.{IsSoundStep}
use Rattle.call_machine.specs.declared.lock.LockStage.{LockStage}
use Rattle.call_machine.specs.declared.lock.LockStage.TheVariants.{LoadHead, LockHead}
use Rattle.call_machine.specs.declared.resize.Direction.{Direction}
use Rattle.call_machine.specs.declared.resize.Direction.TheVariants.{Grow, Shrink}
use Rattle.call_machine.specs.declared.resize.JoinStage.TheVariants as join
use Rattle.call_machine.specs.declared.resize.ResizeAlong.{ResizeAlong}
use Rattle.call_machine.specs.declared.resize.ResizeStage.{ResizeStage}
use Rattle.call_machine.specs.declared.resize.ResizeStage.TheVariants.{PutNewLevel, Lock, PutHead, RedirectHead, Unzip, Join, UnlockHead, Grace, StoreLevel, ClearNewLevel, GiveResizeLock}
use Rattle.call_machine.specs.declared.resize.Side as sides
use Rattle.call_machine.specs.declared.resize.Side.TheVariants.{Even, Odd}
use Rattle.call_machine.specs.declared.resize.UnzipStage.TheVariants as unzip
use Rattle.call_machine.specs.Lock.{lock_row}
use Rattle.call_machine.specs.Resize.{resize_row, bucket_at, other, chain_at, edge_from, joined_first}
use Rattle.call_machine.specs.SoundResize.{IsSoundResize}
use Rattle.cht_core.specs.declared.table.Table.{Table}
use Rattle.cht_core.specs.Backs.{Backs}
use Rattle.cht_core.specs.Flow.{Flow, IsUsed}
use Rattle.cht_core.specs.KnowsResize.{NoHead, OneHead, Resizing, HasLocked, Over, Unzipping, IsOfSide}
use Rattle.cht_core.specs.KnowsResize.{IsNewOfBucket, IsNewOfPair, MayMove, side_bucket, KnowsGrow, KnowsShrink, KnowsResize, evens, odds}
use Rattle.cht_core.specs.KnowsWork.{Locked}
use Rattle.cht_core.specs.Memory.{Memory}
use Rattle.cht_core.specs.Past.{Past}
use Rattle.cht_core.specs.Stage.{Stage, Quiet, Growing, Shrinking, Closing, IsLeft, IsOpen, IsPinned, next_row}
use Rattle.cht_core.proofs.GraceStages.{CanRaise, grace_backs}
use Rattle.cht_core.proofs.ResizeUsed.{left_used, open_used, even_used, pair_below}

-- a head that is used at a stage is used at that of the flow, and back
pub used_at : (n : Now) (f : Flow) (level row bucket : ℕ) (stage : Stage) → n.level ≡ level → f.stage ≡ stage → IsUsed n f row bucket
    → ((row ≡ level) × IsLeft stage bucket × (bucket < 2 ^ row)) ⊎ ((row ≡ next_row stage level) × IsOpen stage level bucket)
used_at n f level row bucket stage levels stages used =
    subst (λ (l : ℕ). ((row ≡ l) × IsLeft stage bucket × (bucket < 2 ^ row)) ⊎ ((row ≡ next_row stage l) × IsOpen stage l bucket)) levels
    (subst (λ (st : Stage). ((row ≡ n.level) × IsLeft st bucket × (bucket < 2 ^ row)) ⊎ ((row ≡ next_row st n.level) × IsOpen st n.level bucket)) stages used)

-- a head of another row than the level's, to which no callers come, is locked by nobody, unless it is excepted
pub free_beyond : (n : Now) (f : Flow) (i level row bucket : ℕ) (stage : Stage) (except : ℕ → ℕ → Type 0) → Resizing n f i level stage except → ¬ (row ≡ level) → ¬ (IsOpen stage level bucket)
    → ¬ (except row bucket) → n.lock row bucket ≡ None
free_beyond n f i level row bucket stage except h off shut out = h.free row bucket
    (λ used. elim (used_at n f level row bucket stage h.at_level h.at_stage used) [ inl a ↦ off a.0 | inr a ↦ shut a.1 ]) out (λ e. absurd (off (e ∙ h.at_level)))

-- A GROW

new_of_bucket : (n : Now) (f : Flow) (i level b bucket : ℕ) (except : ℕ → ℕ → Type 0) → Resizing n f i level (Growing b) except → b < 2 ^ level → (bucket ≡ b) ⊎ (bucket ≡ b + 2 ^ level)
    → ¬ (except (level + 1) bucket) → IsNewOfBucket n f i (level + 1) bucket
new_of_bucket n f i level b bucket except h below side out =
    let free : n.lock (level + 1) bucket ≡ None = free_beyond n f i level (level + 1) bucket (Growing b) except h (λ e. omega (arith, e))
    (λ comes. elim comes [
      | inl x ↦ elim side [ inl e ↦ omega (arith, x, e) | inr e ↦ omega (arith, x, e) ]
      | inr x ↦ elim side [ inl e ↦ (let y : 2 ^ level ≤ bucket = x.0 in omega (arith, y, e, below)) | inr e ↦ (let y : bucket < b + 2 ^ level = x.1 in omega (arith, y, e)) ]
    ]) out in
    subst (λ (l : ℕ). (c : ℕ) × (owner_of n.resizing ≡ Some i) × (f.stage ≡ Growing c) × (c < 2 ^ l) × (level + 1 ≡ l + 1) × ((bucket ≡ c) ⊎ (bucket ≡ c + 2 ^ l)) × (n.lock (level + 1) bucket ≡ None))
    (sym h.at_level) (b, h.owner, h.at_stage, below, refl, side, free)

bucket_of_side : (w : ResizeAlong) (side : sides.Side) → bucket_at Grow w side ≡ side_bucket w.level w.bucket side
bucket_of_side w Even = refl
bucket_of_side w Odd = refl

may_move : (m : Memory) (n : Now) (f : Flow) (i : ℕ) (w : ResizeAlong) (x : ℕ) (side : sides.Side) (next : Option ℕ) → Unzipping m n f i w.level w.bucket w.chains (Some x) Over
    → IsOfSide n w.level x side → m (place.Link x) ≡ link_word next → MayMove m n f i (edge_from (w.level + 1) (bucket_at Grow w (other side)) (chain_at w.chains (other side)).last) next
may_move m n f i w x side next h of link =
    let here : w.level ≡ n.level = sym h.resizing.at_level in
    record {
      bucket = w.bucket;
      chains = w.chains;
      node = x;
      side = side;
      unzipping = subst (λ (l : ℕ). Unzipping m n f i l w.bucket w.chains (Some x) Over) here h;
      of_side = subst (λ (l : ℕ). IsOfSide n l x side) here of;
      link = link;
      edge =
          ap (λ (b : ℕ). edge_from (w.level + 1) b (chain_at w.chains (other side)).last) (bucket_of_side w (other side))
          ∙ ap (λ (l : ℕ). edge_from (l + 1) (side_bucket l w.bucket (other side)) (chain_at w.chains (other side)).last) here;
    }

-- the odd new head of a bucket that was unzipped, and the new head of a pair that is redirected
locked_odd : (m : Memory) (n : Now) (f : Flow) (i level b : ℕ) (first : Option ℕ) → HasLocked m n i (level + 1) (b + 2 ^ level) first → Resizing n f i level (Growing (b + 1)) NoHead
    → Locked m n f i (level + 1) (b + 2 ^ level) first
locked_odd m n f i level b first locked h = record {
  used = open_used n f i level (level + 1) (b + 2 ^ level) (Growing (b + 1)) NoHead h refl (inr (omega arith, omega arith));
  unpinned = λ pin. subst (λ (st : Stage). IsPinned st n.level (level + 1) (b + 2 ^ level)) h.at_stage pin;
  lock = locked.0;
  head = locked.1;
}

locked_new : (m : Memory) (n : Now) (f : Flow) (i k b : ℕ) (first : Option ℕ) → HasLocked m n i k b first → Resizing n f i (k + 1) (Shrinking k (b + 1)) NoHead → Locked m n f i k b first
locked_new m n f i k b first locked h = record {
  used = open_used n f i (k + 1) k b (Shrinking k (b + 1)) NoHead h refl (omega arith);
  unpinned = λ pin. subst (λ (st : Stage). IsPinned st n.level k b) h.at_stage pin;
  lock = locked.0;
  head = locked.1;
}

lock_backed : (t : Table) (m : Memory) (p : Past) (f : Flow) (i : ℕ) (text : List ℕ) (row bucket : ℕ) (s : LockStage) → IsSoundStep t.shape i (lock_row row bucket s).step → IsUsed p.now f row bucket → Backs t m p f i text (lock_row row bucket s).step
lock_backed t m p f i text row bucket LoadHead sound used = tt
lock_backed t m p f i text row bucket (LockHead head) sound used = (sound.1, λ same. used)

grow_backs : (t : Table) (m : Memory) (p : Past) (f : Flow) (i : ℕ) (text : List ℕ) (w : ResizeAlong) (s : ResizeStage) → IsSoundResize t.shape Grow w s
    → ((slot at : ℕ) → p.now.slot slot ≡ Unlinked i at → 2 ^ 48 ≤ p.uses slot) → KnowsGrow m p.now f i w s → CanRaise m (resize_row t.shape Grow w s).step → Backs t m p f i text (resize_row t.shape Grow w s).step
grow_backs t m p f i text w PutNewLevel sound used h may =
    (subst (λ (l : ℕ). Resizing p.now f i l Quiet NoHead) (sym h.at_level) h, inl (ap (λ (l : ℕ). l + 1) (sym h.at_level)))
grow_backs t m p f i text w (Lock Even s) sound used h may =
    lock_backed t m p f i text w.level w.bucket s (sound.step i) (left_used p.now f i w.level w.bucket (Growing w.bucket) NoHead h.1 (omega arith) h.0)
grow_backs t m p f i text w (Lock Odd s) sound used h may = absurd sound.at
grow_backs t m p f i text w (PutHead Even) sound used h may = inl (new_of_bucket p.now f i w.level w.bucket w.bucket NoHead h.3 h.0 (inl refl) (λ no. no))
grow_backs t m p f i text w (PutHead Odd) sound used h may =
    let up : 0 < 2 ^ w.level = omega (arith, h.0) in
    inl (new_of_bucket p.now f i w.level w.bucket (w.bucket + 2 ^ w.level) (OneHead (w.level + 1) w.bucket) h.4 h.0 (inr refl) (λ same. omega (arith, up, same.1)))
grow_backs t m p f i text w (RedirectHead Even) sound used h may = inl (sym h.1.4.at_level, h.1)
grow_backs t m p f i text w (RedirectHead Odd) sound used h may = absurd sound.at
grow_backs t m p f i text w (Unzip (unzip.LoadMeta x)) sound used h may = tt
grow_backs t m p f i text w (Unzip (unzip.LoadLink x side)) sound used h may = tt
grow_backs t m p f i text w (Unzip (unzip.MoveEdge x side next)) sound used h may = may_move m p.now f i w x side next h.0 h.1 h.2
grow_backs t m p f i text w (Join s) sound used h may = absurd h
grow_backs t m p f i text w (UnlockHead Even) sound used h may =
    inr (w.chains, ap (λ (l : ℕ). l + 1) (sym h.resizing.at_level), subst (λ (l : ℕ). Unzipping m p.now f i l w.bucket w.chains None Over) (sym h.resizing.at_level) h, refl)
grow_backs t m p f i text w (UnlockHead Odd) sound used h may = inl (locked_odd m p.now f i w.level w.bucket (odds w) h.1 h.2)
grow_backs t m p f i text w (Grace then_do s) sound used h may = grace_backs t m p f i text t.shape.seats w.grace s may
grow_backs t m p f i text w StoreLevel sound used h may = inl (
  ap (λ (l : ℕ). l + 1) (sym h.at_level),
  subst (λ (l : ℕ). Resizing p.now f i l (Growing (2 ^ l)) NoHead) (sym h.at_level) h,
)
grow_backs t m p f i text w ClearNewLevel sound used h may = (subst (λ (l : ℕ). Resizing p.now f i l Closing NoHead) (sym h.0.at_level) h.0, h.1)
grow_backs t m p f i text w GiveResizeLock sound used h may = (subst (λ (l : ℕ). Resizing p.now f i l Quiet NoHead) (sym h.at_level) h, used)

-- A SHRINK

pub half_of : (w : ResizeAlong) (k : ℕ) → w.level ≡ k + 1 → w.level - 1 ≡ k
half_of w k e = omega (arith, e)

shrink_backs : (t : Table) (m : Memory) (p : Past) (f : Flow) (i : ℕ) (text : List ℕ) (k : ℕ) (w : ResizeAlong) (s : ResizeStage) → IsSoundResize t.shape Shrink w s → w.level ≡ k + 1
    → ((slot at : ℕ) → p.now.slot slot ≡ Unlinked i at → 2 ^ 48 ≤ p.uses slot) → KnowsShrink m p.now f i k w s → CanRaise m (resize_row t.shape Shrink w s).step → Backs t m p f i text (resize_row t.shape Shrink w s).step
shrink_backs t m p f i text k w PutNewLevel sound level used h may = (
  subst (λ (l : ℕ). Resizing p.now f i l Quiet NoHead) (sym h.at_level) h,
  inr (h.at_level ∙ ap (λ (l : ℕ). l + 1) (sym (half_of w k level))),
)
shrink_backs t m p f i text k w (Lock Even s) sound level used h may =
    lock_backed t m p f i text w.level w.bucket s (sound.step i) (subst (λ (r : ℕ). IsUsed p.now f r w.bucket) (sym level) (even_used p.now f i k w.bucket NoHead h.1 h.0))
shrink_backs t m p f i text k w (Lock Odd s) sound level used h may =
    lock_backed t m p f i text w.level (w.bucket + 2 ^ (w.level - 1)) s (sound.step i) (
    subst (λ (r : ℕ). IsUsed p.now f r (w.bucket + 2 ^ (w.level - 1))) (sym level) (subst (λ (c : ℕ). IsUsed p.now f (k + 1) (w.bucket + 2 ^ c)) (sym (half_of w k level))
    (left_used p.now f i (k + 1) (w.bucket + 2 ^ k) (Shrinking k w.bucket) NoHead h.2 (omega arith, inr (omega arith)) (pair_below k w.bucket h.0).1)))
shrink_backs t m p f i text k w (PutHead Even) sound level used h may =
    inr (subst (λ (r : ℕ). IsNewOfPair m p.now f i r w.bucket (joined_first (evens w) (odds w))) (sym (half_of w k level)) (evens w, odds w, h, refl))
shrink_backs t m p f i text k w (PutHead Odd) sound level used h may = absurd sound.at
shrink_backs t m p f i text k w (RedirectHead Even) sound level used h may = inr (inl (k, odds w, level, h.0, h.1))
shrink_backs t m p f i text k w (RedirectHead Odd) sound level used h may =
    inr (inr (k, w.bucket, evens w, level, ap (λ (c : ℕ). w.bucket + 2 ^ c) (half_of w k level), h))
shrink_backs t m p f i text k w (Unzip s) sound level used h may = absurd h
shrink_backs t m p f i text k w (Join (join.LoadLink x)) sound level used h may = tt
shrink_backs t m p f i text k w (Join (join.JoinChains x)) sound level used h may = (k, w.bucket, evens w, h.0, h.1, h.2)
shrink_backs t m p f i text k w (UnlockHead Even) sound level used h may =
    inl (subst (λ (r : ℕ). Locked m p.now f i r w.bucket (joined_first (evens w) (odds w))) (sym (half_of w k level)) (locked_new m p.now f i k w.bucket (joined_first (evens w) (odds w)) h.1 h.2))
shrink_backs t m p f i text k w (UnlockHead Odd) sound level used h may = absurd sound.at
shrink_backs t m p f i text k w (Grace then_do s) sound level used h may = grace_backs t m p f i text t.shape.seats w.grace s may
shrink_backs t m p f i text k w StoreLevel sound level used h may =
    inr (subst (λ (new : ℕ). Resizing p.now f i (new + 1) (Shrinking new (2 ^ new)) NoHead) (sym (half_of w k level)) h)
shrink_backs t m p f i text k w ClearNewLevel sound level used h may = (subst (λ (l : ℕ). Resizing p.now f i l Closing NoHead) (sym h.0.at_level) h.0, h.1)
shrink_backs t m p f i text k w GiveResizeLock sound level used h may = (subst (λ (l : ℕ). Resizing p.now f i l Quiet NoHead) (sym h.at_level) h, used)

-- each step of a resize
pub resize_backs : (t : Table) (m : Memory) (p : Past) (f : Flow) (i : ℕ) (text : List ℕ) (d : Direction) (w : ResizeAlong) (s : ResizeStage) → IsSoundResize t.shape d w s
    → ((slot at : ℕ) → p.now.slot slot ≡ Unlinked i at → 2 ^ 48 ≤ p.uses slot) → KnowsResize m p.now f i d w s → CanRaise m (resize_row t.shape d w s).step
    → Backs t m p f i text (resize_row t.shape d w s).step
resize_backs t m p f i text Grow w s sound used h may = grow_backs t m p f i text w s sound used h may
resize_backs t m p f i text Shrink w s sound used h may = shrink_backs t m p f i text h.0 w s sound h.1 used h.2 may
