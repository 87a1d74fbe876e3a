-- A grow or a shrink has looked at no more nodes of its pair than the table has slots.
use Rattle.std.proofs.Common.{◌≡◌, ℕ, ◌+◌, ◌≤◌, List, [], Option, Some, None, ◌⊎◌, inl, inr, refl, sym, ap, subst, ◌∙◌, arith}
use Rattle.intern_log.specs.declared.event.Event.{Event}
use Rattle.atomic_step.specs.declared.answer.Answer.{Answer}
use Rattle.atomic_step.specs.declared.answer.Answer.TheVariants as answer
use Rattle.atomic_step.specs.declared.plan.Plan.TheVariants as plan
use Rattle.atomic_step.specs.declared.step.Step.{Step}
use Rattle.atomic_step.specs.Turn.{next_in}
use Rattle.call_machine.specs.declared.machine.Machine.{Machine}
use Rattle.call_machine.specs.declared.machine.Machine.TheVariants as machine
use Rattle.call_machine.specs.declared.poll.Polling.{Polling}
use Rattle.call_machine.specs.declared.resize.AfterGrace.TheVariants as after
use Rattle.call_machine.specs.declared.resize.Direction.{Direction}
use Rattle.call_machine.specs.declared.resize.Direction.TheVariants.{Grow, Shrink}
use Rattle.call_machine.specs.declared.resize.JoinStage.TheVariants as join
use Rattle.call_machine.specs.declared.resize.Resize.{Resize}
use Rattle.call_machine.specs.declared.resize.ResizeAlong.{ResizeAlong}
use Rattle.call_machine.specs.declared.resize.ResizeStage.{ResizeStage}
use Rattle.call_machine.specs.declared.resize.ResizeStage.TheVariants.{PutNewLevel, Lock, PutHead, RedirectHead, Unzip, Join, UnlockHead, Grace, StoreLevel, ClearNewLevel, GiveResizeLock}
use Rattle.call_machine.specs.declared.resize.Side.TheVariants.{Even, Odd}
use Rattle.call_machine.specs.declared.resize.UnzipStage.TheVariants as unzip
use Rattle.call_machine.specs.declared.work.Work.{Work}
use Rattle.call_machine.specs.declared.work.Work.TheVariants as work
use Rattle.call_machine.specs.Machine.{plan_of, got_of, IsSameWork, IsSameMachine}
use Rattle.call_machine.specs.Poll.{poll_turn, polling, state_of, work_left}
use Rattle.call_machine.proofs.Machines.{got_is, same_law}
use Rattle.cht_core.specs.declared.seat.Seat.TheVariants as doing
use Rattle.cht_core.specs.declared.table.Table.{Table}
use Rattle.cht_core.specs.Bounds.{work_of}
use Rattle.cht_core.specs.Flow.{Flow}
use Rattle.cht_core.specs.Invariant.{Inv}
use Rattle.cht_core.specs.KnowsResize.{OneHead, KnowsGrow, KnowsShrink, KnowsResize}
use Rattle.cht_core.specs.Looks.{ComesBehind, GrowLooksAtFew, ShrinkLooksAtFew, ResizeLooksAtFew, WorkLooksAtFew}
use Rattle.cht_core.specs.Memory.{Memory}
use Rattle.cht_core.specs.Past.{Past, past_of}
use Rattle.cht_core.specs.PollMeasure.{looked_by, looked_in}
use Rattle.cht_core.specs.Runs.{word_in}
use Rattle.cht_core.specs.State.{Core, IsCore, seat_in}
use Rattle.cht_core.specs.TableState.{IsTable}
use Rattle.cht_core.specs.View.{View}
use Rattle.cht_core.proofs.FewSeats.{known_work, of_some}
use Rattle.cht_core.proofs.GraceRuns.{same_resize}
use Rattle.cht_core.proofs.LooksGrow.{moved_few, next_few}
use Rattle.cht_core.proofs.LooksShrink.{behind_few, chain_few}
use Rattle.cht_core.proofs.ResizeUsed.{even_used}
use Rattle.cht_core.proofs.StateLaw.{any_step_keeps, any_word_fits}
use Rattle.cht_core.proofs.StateSteps.{running, moves}

-- A RESIZE

none_passed : (passed slots : ℕ) → passed ≡ 0 → passed ≤ slots
none_passed passed slots none = omega (arith, none)

module _ (t : Table) (m : Memory) (p : Past) (f : Flow) (i : ℕ) (table : IsTable t m p f) where
  grow_passed : (w : ResizeAlong) (s : ResizeStage) → KnowsGrow m p.now f i w s → GrowLooksAtFew t.shape.slots f w s → w.passed ≤ t.shape.slots
  grow_passed w PutNewLevel knows few = none_passed w.passed t.shape.slots few
  grow_passed w (Lock side s) knows few = none_passed w.passed t.shape.slots few
  grow_passed w (PutHead side) knows few = none_passed w.passed t.shape.slots few
  grow_passed w (RedirectHead side) knows few = none_passed w.passed t.shape.slots few
  grow_passed w (Unzip (unzip.LoadMeta x)) knows few = moved_few t m p f table w.passed few
  grow_passed w (Unzip (unzip.LoadLink x side)) knows few = next_few t m p f table i w.level w.bucket w.chains x w.passed _ knows.0 few
  grow_passed w (Unzip (unzip.MoveEdge x side next)) knows few = next_few t m p f table i w.level w.bucket w.chains x w.passed _ knows.0 few
  grow_passed w (Join s) knows few = absurd few
  grow_passed w (UnlockHead Even) knows few = moved_few t m p f table w.passed few
  grow_passed w (UnlockHead Odd) knows few = few
  grow_passed w (Grace after.Unzip s) knows few = moved_few t m p f table w.passed few
  grow_passed w (Grace after.UnlockHead s) knows few = absurd few
  grow_passed w (Grace after.ClearNewLevel s) knows few = few
  grow_passed w StoreLevel knows few = few
  grow_passed w ClearNewLevel knows few = few
  grow_passed w GiveResizeLock knows few = few

  module _ (k : ℕ) (w : ResizeAlong) (level : w.level ≡ k + 1) where
    along_passed : (x : ℕ) → KnowsShrink m p.now f i k w (Join (join.LoadLink x)) → ShrinkLooksAtFew t.shape.slots f w (Join (join.LoadLink x)) → w.passed ≤ t.shape.slots
    along_passed x knows few =
        let used = even_used p.now f i k w.bucket (OneHead k w.bucket) knows.0.0.resizing knows.0.0.below in
        let most = behind_few (f.chain (k + 1) w.bucket) x w.passed t.shape.slots (chain_few t m m p f i [] table (k + 1) w.bucket used)
        (subst (λ (row : ℕ). ComesBehind (f.chain row w.bucket) x w.passed) level few) in
        omega (arith, most)

    shrink_passed : (s : ResizeStage) → KnowsShrink m p.now f i k w s → ShrinkLooksAtFew t.shape.slots f w s → w.passed ≤ t.shape.slots
    shrink_passed PutNewLevel knows few = none_passed w.passed t.shape.slots few
    shrink_passed (Lock side s) knows few = none_passed w.passed t.shape.slots few
    shrink_passed (PutHead side) knows few = none_passed w.passed t.shape.slots few
    shrink_passed (RedirectHead side) knows few = few
    shrink_passed (Unzip s) knows few = absurd few
    shrink_passed (Join (join.LoadLink x)) knows few = along_passed x knows few
    shrink_passed (Join (join.JoinChains x)) knows few = few
    shrink_passed (UnlockHead side) knows few = few
    shrink_passed (Grace after.Unzip s) knows few = absurd few
    shrink_passed (Grace after.UnlockHead s) knows few = few
    shrink_passed (Grace after.ClearNewLevel s) knows few = few
    shrink_passed StoreLevel knows few = few
    shrink_passed ClearNewLevel knows few = few
    shrink_passed GiveResizeLock knows few = few

  resize_passed : (d : Direction) (w : ResizeAlong) (s : ResizeStage) → KnowsResize m p.now f i d w s → ResizeLooksAtFew t.shape.slots f d w s → w.passed ≤ t.shape.slots
  resize_passed Grow w s knows few = grow_passed w s knows few
  resize_passed Shrink w s knows few = shrink_passed knows.0 w knows.1 s knows.2 few

-- A SEAT

-- a poll has its work left, or none
work_or_none : (w : Work) (a : Option Answer) → (work_left w a ≡ Some w) ⊎ (work_left w a ≡ None)
work_or_none w None = inl refl
work_or_none w (Some (answer.Done did)) = inr refl
work_or_none w (Some _) = inl refl

module _ (t : Table) (m : Memory) (seat : ℕ → Option View) (log : List Event) (inv : Inv t m seat log) (k : ℕ) (v : View) (is : seat k ≡ Some v) where
  abbrev now : Past
  now = past_of t.shape.min_level log

  -- an unfinished grow or shrink
  pub few_looked : (r : Resize) → work_of v.seat ≡ Some (work.Resize r) → r.along.passed ≤ t.shape.slots
  few_looked r has = resize_passed t m now inv.flow k inv.table r.direction r.along r.stage (known_work t m now inv.flow k v (work.Resize r) (inv.knows k v is) has)
      (of_some (WorkLooksAtFew t.shape.slots inv.flow) (work_of v.seat) (work.Resize r) has (inv.looks k v is))

  -- and its poll
  pub few_polled : (q : Polling) (r : Resize) → v.seat ≡ doing.Running (machine.Poll q) → q.work ≡ work.Resize r → looked_in (machine.Poll q) ≤ t.shape.slots
  few_polled q r runs resizes = elim (work_or_none q.work q.answer) [
    | inl left ↦
        let has : work_left q.work q.answer ≡ Some (work.Resize r) = left ∙ ap (λ (w : Work). Some w) resizes in
        subst (λ (o : Option Work). looked_by o ≤ t.shape.slots) (sym has) (few_looked r (ap work_of runs ∙ has))
    | inr none ↦ subst (λ (o : Option Work). looked_by o ≤ t.shape.slots) (sym none) (omega arith)
  ]

-- A STATE

module _ (d : Core) (core : IsCore d) (k : ℕ) (q : Polling) (r : Resize) (s : Step) (at : seat_in d.seats k ≡ Some (doing.Running (machine.Poll q))) (resizes : q.work ≡ work.Resize r)
    (planned : plan_of (machine.Poll q) ≡ plan.Step s) where
  -- the poll after a step
  abbrev pub next : Polling
  next = polling q.caller (next_in (state_of q) (poll_turn q.caller (state_of q)) (word_in d s))

  is_next : got_of (machine.Poll q) (word_in d s) ≡ machine.Poll next
  is_next = got_is (machine.Poll q) (word_in d s)

  still : (x : Resize) × (next.work ≡ work.Resize x) × (x.direction ≡ r.direction)
  still = same_resize r next.work (subst (λ (w : Work). IsSameWork w next.work) resizes
      (subst (IsSameMachine (machine.Poll q)) is_next (same_law (machine.Poll q) (word_in d s))).1)

  pub few_after : looked_in (got_of (machine.Poll q) (word_in d s)) ≤ d.table.shape.slots
  few_after = subst (λ (k : Machine). looked_in k ≤ d.table.shape.slots) (sym is_next)
      (few_polled d.table _ _ _ (running any_step_keeps any_word_fits d core k (machine.Poll q) s at planned) k _ (moves any_step_keeps any_word_fits d core k (machine.Poll q) s at planned).own next still.0
      (ap (λ (m : Machine). doing.Running m) is_next) still.1)
