-- At how many nodes an unfinished resize has looked stays few while others make steps, as a call begins, and once it has answered.
use Rattle.std.proofs.Common.{◌≡◌, ◌≢◌, ℕ, ◌+◌, Option, Some, None, IfSome, refl, sym, subst, ◌∙◌}
use Rattle.intern_log.specs.Now.{owner_of}
use Rattle.atomic_step.specs.declared.answer.Answer.{Answer}
use Rattle.atomic_step.specs.declared.answer.Answer.TheVariants as answer
use Rattle.call_machine.specs.declared.begin.Left.{Left}
use Rattle.call_machine.specs.declared.begin.Left.TheVariants as left
use Rattle.call_machine.specs.declared.call.Call.{Call}
use Rattle.call_machine.specs.declared.call.Call.TheVariants as call
use Rattle.call_machine.specs.declared.caller.Caller.{Caller}
use Rattle.call_machine.specs.declared.grace.Grace as graces
use Rattle.call_machine.specs.declared.machine.Machine.{Machine}
use Rattle.call_machine.specs.declared.machine.Machine.TheVariants as machine
use Rattle.call_machine.specs.declared.machine.Own.{Own}
use Rattle.call_machine.specs.declared.resize.AfterGrace.TheVariants as after
use Rattle.call_machine.specs.declared.resize.Direction.{Direction}
use Rattle.call_machine.specs.declared.resize.Direction.TheVariants.{Grow, Shrink}
use Rattle.call_machine.specs.declared.resize.JoinStage.TheVariants as join
use Rattle.call_machine.specs.declared.resize.ResizeAlong.{ResizeAlong}
use Rattle.call_machine.specs.declared.resize.ResizeStage.{ResizeStage}
use Rattle.call_machine.specs.declared.resize.ResizeStage.TheVariants.{PutNewLevel, Lock, PutHead, RedirectHead, Unzip, Join, UnlockHead, Grace, StoreLevel, ClearNewLevel, GiveResizeLock}
use Rattle.call_machine.specs.declared.resize.Side.TheVariants.{Even, Odd}
use Rattle.call_machine.specs.declared.resize.UnzipStage.TheVariants as unzip
use Rattle.call_machine.specs.declared.work.Work.{Work}
use Rattle.call_machine.specs.declared.work.Work.TheVariants as work
use Rattle.call_machine.specs.Begin.{left_of}
use Rattle.call_machine.specs.Machine.{starts, begun_work_poll, begun_grace_poll, own_of}
use Rattle.call_machine.specs.Poll.{work_left}
use Rattle.call_machine.specs.Resize as resizes
use Rattle.call_machine.specs.Work.{begun_work, resumes}
use Rattle.cht_core.specs.declared.seat.Seat.{Seat}
use Rattle.cht_core.specs.declared.seat.Seat.TheVariants as doing
use Rattle.cht_core.specs.declared.table.Table.{Table}
use Rattle.cht_core.specs.Bounds.{work_of}
use Rattle.cht_core.specs.Flow.{Flow}
use Rattle.cht_core.specs.KnowsResize.{OneHead, KnowsShrink, KnowsResize}
use Rattle.cht_core.specs.KnowsWork.{KnowsWork}
use Rattle.cht_core.specs.Looks.{LooksAtMoved, GrowLooksAtFew, ShrinkLooksAtFew, ResizeLooksAtFew, WorkLooksAtFew, LooksAtFew}
use Rattle.cht_core.specs.Memory.{Memory}
use Rattle.cht_core.specs.Past.{Past}
use Rattle.cht_core.specs.Rely.{Leaves}
use Rattle.cht_core.specs.Stage.{Whole}
use Rattle.cht_core.specs.View.{View, Knows}
use Rattle.cht_core.proofs.FewSeats.{work_owner, known_work}
use Rattle.cht_core.proofs.ResizeUsed.{even_used}

-- what is so of what may be there goes over
if_some : {A : Type 0} (P Q : A → Type 0) (o : Option A) → ((a : A) → o ≡ Some a → P a → Q a) → IfSome o P → IfSome o Q
if_some P Q None over so = tt
if_some P Q (Some a) over so = over a refl so

-- WHAT STAYS

module _ (slots : ℕ) (f f' : Flow) where
  pub moved_stay : ((s : ℕ) → f.parted s ≢ Whole → f'.parted s ≢ Whole) → (passed beside : ℕ) → LooksAtMoved f passed beside → LooksAtMoved f' passed beside
  moved_stay parted passed beside few = (few.0, few.1, λ s on. parted s (few.2 s on), few.3)

  -- as long as the slots that were moved past are none that is whole
  pub grow_stays : ((s : ℕ) → f.parted s ≢ Whole → f'.parted s ≢ Whole) → (w : ResizeAlong) (s : ResizeStage) → GrowLooksAtFew slots f w s → GrowLooksAtFew slots f' w s
  grow_stays parted w PutNewLevel few = few
  grow_stays parted w (Lock side s) few = few
  grow_stays parted w (PutHead side) few = few
  grow_stays parted w (RedirectHead side) few = few
  grow_stays parted w (Unzip (unzip.LoadMeta x)) few = moved_stay parted w.passed 0 few
  grow_stays parted w (Unzip (unzip.LoadLink x side)) few = moved_stay parted w.passed 1 few
  grow_stays parted w (Unzip (unzip.MoveEdge x side next)) few = moved_stay parted w.passed 1 few
  grow_stays parted w (Join s) few = few
  grow_stays parted w (UnlockHead Even) few = moved_stay parted w.passed 0 few
  grow_stays parted w (UnlockHead Odd) few = few
  grow_stays parted w (Grace after.Unzip s) few = moved_stay parted w.passed 0 few
  grow_stays parted w (Grace after.UnlockHead s) few = few
  grow_stays parted w (Grace after.ClearNewLevel s) few = few
  grow_stays parted w StoreLevel few = few
  grow_stays parted w ClearNewLevel few = few
  grow_stays parted w GiveResizeLock few = few

  -- as long as the chain along which it goes stays
  pub shrink_stays : (w : ResizeAlong) (s : ResizeStage) → ((x : ℕ) → s ≡ Join (join.LoadLink x) → f'.chain w.level w.bucket ≡ f.chain w.level w.bucket) → ShrinkLooksAtFew slots f w s → ShrinkLooksAtFew slots f' w s
  shrink_stays w PutNewLevel chain few = few
  shrink_stays w (Lock side s) chain few = few
  shrink_stays w (PutHead side) chain few = few
  shrink_stays w (RedirectHead side) chain few = few
  shrink_stays w (Unzip s) chain few = few
  shrink_stays w (Join (join.LoadLink x)) chain few = (few.0, few.1, chain x refl ∙ few.2, few.3)
  shrink_stays w (Join (join.JoinChains x)) chain few = few
  shrink_stays w (UnlockHead side) chain few = few
  shrink_stays w (Grace after.Unzip s) chain few = few
  shrink_stays w (Grace after.UnlockHead s) chain few = few
  shrink_stays w (Grace after.ClearNewLevel s) chain few = few
  shrink_stays w StoreLevel chain few = few
  shrink_stays w ClearNewLevel chain few = few
  shrink_stays w GiveResizeLock chain few = few

  -- where neither changes
  pub same_looks : ((s : ℕ) → f'.parted s ≡ f.parted s) → ((row bucket : ℕ) → f'.chain row bucket ≡ f.chain row bucket) → (s : Seat) → LooksAtFew slots f s → LooksAtFew slots f' s
  same_looks parted chain s few = if_some (WorkLooksAtFew slots f) (WorkLooksAtFew slots f') (work_of s) (λ w is. of_work w) few
    where
      of_resize : (d : Direction) (w : ResizeAlong) (s : ResizeStage) → ResizeLooksAtFew slots f d w s → ResizeLooksAtFew slots f' d w s
      of_resize Grow w s few = grow_stays (λ x not whole. not (sym (parted x) ∙ whole)) w s few
      of_resize Shrink w s few = shrink_stays w s (λ x at. chain w.level w.bucket) few

      of_work : (w : Work) → WorkLooksAtFew slots f w → WorkLooksAtFew slots f' w
      of_work (work.Clean c) few = tt
      of_work (work.Resize r) few = of_resize r.direction r.along r.stage few

-- a step that leaves a seat what it has
module _ (slots : ℕ) (m : Memory) (p : Past) (f : Flow) (m' : Memory) (p' : Past) (f' : Flow) (i : ℕ) (leaves : Leaves i m p f m' p' f') where
  -- the even chain of a pair is locked
  chain_stays : (k : ℕ) (w : ResizeAlong) (s : ResizeStage) (x : ℕ) → w.level ≡ k + 1 → KnowsShrink m p.now f i k w s → s ≡ Join (join.LoadLink x) → f'.chain w.level w.bucket ≡ f.chain w.level w.bucket
  chain_stays k w s x is known at =
      let knows : KnowsShrink m p.now f i k w (Join (join.LoadLink x)) = subst (KnowsShrink m p.now f i k w) at known in
      subst (λ (row : ℕ). f'.chain row w.bucket ≡ f.chain row w.bucket) (sym is)
      (leaves.chains (k + 1) w.bucket (even_used p.now f i k w.bucket (OneHead k w.bucket) knows.0.0.resizing knows.0.0.below) knows.0.0.low.0)

  resize_looks : (d : Direction) (w : ResizeAlong) (s : ResizeStage) → owner_of p.now.resizing ≡ Some i → KnowsResize m p.now f i d w s → ResizeLooksAtFew slots f d w s → ResizeLooksAtFew slots f' d w s
  resize_looks Grow w s owner known few = grow_stays slots f f' (λ x not whole. not (sym ((leaves.still owner).parted x) ∙ whole)) w s few
  resize_looks Shrink w s owner known few = shrink_stays slots f f' w s (λ x at. chain_stays known.0 w s x known.1 known.2 at) few

  pub work_looks : (w : Work) → KnowsWork m p f i w → WorkLooksAtFew slots f w → WorkLooksAtFew slots f' w
  work_looks (work.Clean c) known few = tt
  work_looks (work.Resize r) known few = resize_looks r.direction r.along r.stage (work_owner m p f i (work.Resize r) known) known few

  -- a seat that knows its work
  pub seat_looks : (t : Table) (v : View) → Knows t m p f i v → LooksAtFew slots f v.seat → LooksAtFew slots f' v.seat
  seat_looks t v known few = if_some (WorkLooksAtFew slots f) (WorkLooksAtFew slots f') (work_of v.seat) (λ w is. work_looks w (known_work t m p f i v w known is)) few

-- CALLS

module _ (slots : ℕ) (f : Flow) where
  -- of a work that is left
  pub left_looks : (w : Work) (o : Option Answer) → WorkLooksAtFew slots f w → IfSome (work_left w o) (WorkLooksAtFew slots f)
  left_looks w None few = few
  left_looks w (Some (answer.Done did)) few = tt
  left_looks w (Some _) few = few

  -- a work that begins has looked at none
  begun_looks : (caller : Caller) (l : Left) → IfSome (begun_work caller.shape l) (WorkLooksAtFew slots f)
  begun_looks caller left.Nothing = tt
  begun_looks caller left.Clean = tt
  begun_looks caller (left.Resize Grow level) = refl
  begun_looks caller (left.Resize Shrink level) = refl
  begun_looks caller (left.Grace g) = tt

  -- a seat whose call has answered
  pub rests_looks : (k : Machine) → LooksAtFew slots f (doing.Running k) → LooksAtFew slots f (doing.Idle (own_of k))
  rests_looks (machine.Call c w g) few = few
  rests_looks (machine.Begin b) few = begun_looks b.caller (left_of b.stage)
  rests_looks (machine.Poll q) few = few
  rests_looks (machine.Sweep s) few = tt

  poll_looks : (caller : Caller) (o : Option Work) → IfSome o (WorkLooksAtFew slots f) → LooksAtFew slots f (doing.Running (begun_work_poll caller o))
  poll_looks caller None few = tt
  poll_looks caller (Some (work.Clean c)) few = left_looks (resumes (work.Clean c)).0 (resumes (work.Clean c)).1 tt
  poll_looks caller (Some (work.Resize r)) few = left_looks (work.Resize r) (resizes.resumed r.along r.stage) few

  grace_looks : (caller : Caller) (o : Option graces.Grace) → LooksAtFew slots f (doing.Running (begun_grace_poll caller o))
  grace_looks caller None = tt
  grace_looks caller (Some g) = tt

  -- a call that begins
  pub starts_looks : (caller : Caller) (own : Own) (c : Call) → LooksAtFew slots f (doing.Idle own) → LooksAtFew slots f (doing.Running (starts caller own c))
  starts_looks caller own call.PollGrace few = grace_looks caller own.grace
  starts_looks caller own call.PollWork few = poll_looks caller own.work few
  starts_looks caller own call.Split few = few
  starts_looks caller own (call.Intern text) few = few
  starts_looks caller own (call.Lookup text) few = few
  starts_looks caller own (call.InternWait text) few = few
  starts_looks caller own (call.TextOf h) few = few
  starts_looks caller own (call.Drop h) few = few
  starts_looks caller own (call.Permanent h) few = few
  starts_looks caller own (call.Kill h) few = few
  starts_looks caller own call.BeginClean few = tt
  starts_looks caller own call.BeginGrow few = tt
  starts_looks caller own call.BeginShrink few = tt
  starts_looks caller own call.BeginGrace few = tt
  starts_looks caller own (call.Sweep text) few = tt
