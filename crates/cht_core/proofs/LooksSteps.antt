-- After a step of a seat its grow or shrink has looked at few nodes still.
use Rattle.std.proofs.Common.{◌≡◌, ℕ, List, [], Option, Some, None, IfSome, refl, sym, subst}
use Rattle.table_shape.specs.declared.shape.Shape.{Shape}
use Rattle.atomic_step.specs.declared.answer.Answer.{Answer}
use Rattle.atomic_step.specs.declared.plan.Plan.TheVariants as plan
use Rattle.atomic_step.specs.declared.step.Step.{Step}
use Rattle.atomic_step.specs.Turn.{Row, next_in}
use Rattle.call_machine.specs.declared.caller.Caller.{Caller}
use Rattle.call_machine.specs.declared.grace.Grace.{Grace}
use Rattle.call_machine.specs.declared.machine.Machine.{Machine}
use Rattle.call_machine.specs.declared.machine.Machine.TheVariants as machine
use Rattle.call_machine.specs.declared.poll.Polling.{Polling}
use Rattle.call_machine.specs.declared.resize.Direction.{Direction}
use Rattle.call_machine.specs.declared.resize.Direction.TheVariants.{Grow, Shrink}
use Rattle.call_machine.specs.declared.resize.ResizeAlong.{ResizeAlong}
use Rattle.call_machine.specs.declared.resize.ResizeStage.{ResizeStage}
use Rattle.call_machine.specs.declared.stage.Along.{Along}
use Rattle.call_machine.specs.declared.stage.Calling.{Calling}
use Rattle.call_machine.specs.declared.stage.CallStage.{CallStage}
use Rattle.call_machine.specs.declared.work.Work.{Work}
use Rattle.call_machine.specs.declared.work.Work.TheVariants as work
use Rattle.call_machine.specs.Begin.{begin_turn}
use Rattle.call_machine.specs.Calls.{turn_at, goes_to}
use Rattle.call_machine.specs.Clean as cleans
use Rattle.call_machine.specs.Machine.{plan_of, turn_of, text_of}
use Rattle.call_machine.specs.Poll.{poll_turn, polling, state_of, work_left}
use Rattle.call_machine.specs.Polls.{turn_by}
use Rattle.call_machine.specs.Resize.{Went, resize_row}
use Rattle.call_machine.specs.Sweep as sweeps
use Rattle.call_machine.specs.Sweep.{sweep_turn}
use Rattle.call_machine.specs.Work.{work_row, of_resize}
use Rattle.cht_core.specs.declared.seat.Seat.TheVariants as doing
use Rattle.cht_core.specs.declared.table.Table.{Table}
use Rattle.cht_core.specs.Backs.{Goes, IsOfTry}
use Rattle.cht_core.specs.Flow.{Flow}
use Rattle.cht_core.specs.KnowsResize.{KnowsResize}
use Rattle.cht_core.specs.KnowsWork.{KnowsWork}
use Rattle.cht_core.specs.Looks.{ResizeLooksAtFew, WorkLooksAtFew, LooksAtFew}
use Rattle.cht_core.specs.Memory.{Memory, IsMade, found}
use Rattle.cht_core.specs.Past.{Past}
use Rattle.cht_core.specs.TableState.{IsTable}
use Rattle.cht_core.specs.View.{IsOfSeat, KnowsMachine}
use Rattle.cht_core.proofs.FewSteps.{any_make}
use Rattle.cht_core.proofs.LooksGrow.{grow_looks}
use Rattle.cht_core.proofs.LooksShrink.{shrink_looks}
use Rattle.cht_core.proofs.LooksStay.{work_looks, left_looks}
use Rattle.cht_core.proofs.MachineCalls.{calls_try}
use Rattle.cht_core.proofs.MachineSteps.{mapped, both_make}
use Rattle.cht_core.proofs.Turns.{IfMakes, if_planned, past_by, flow_of}

module _ (t : Table) (m m' : Memory) (p : Past) (f : Flow) (i : ℕ) (table : IsTable t m p f) where
  -- what came of a step
  abbrev FewAfter : List ℕ → Step → (ℕ → Machine) → Type 0
  FewAfter text s next = IsMade s m m' → Goes t m p f i text s m' → LooksAtFew t.shape.slots (flow_of p f i text s m) (doing.Running (next (found s m)))

  -- a call leaves the work of its seat as it is
  call_few : (load : ℕ) (passed : List ℕ) (c : Calling) (w : Option Work) (g : Option Grace) → KnowsMachine m p f i load passed (machine.Call c w g) → LooksAtFew t.shape.slots f (doing.Running (machine.Call c w g))
      → IfMakes (λ (does : Row Machine). FewAfter c.asked.text does.step does.next) (turn_of (machine.Call c w g))
  call_few load passed c w g known few =
      mapped (FewAfter c.asked.text) (λ at. machine.Call (goes_to c.asked at) w g) (turn_at c.asked c.along c.stage)
      (both_make (λ (does : Row (Along × CallStage)). IsOfTry p.now i does.step) (λ (does : Row (Along × CallStage)). IsOfTry p.now i does.step)
      (λ (does : Row (Along × CallStage)). FewAfter c.asked.text does.step (λ word. machine.Call (goes_to c.asked (does.next word)) w g)) (turn_at c.asked c.along c.stage)
      (λ does try same made goes. stays does.step goes try w known.1 few)
      (calls_try m p f i load passed c.asked c.along c.stage known.0) (calls_try m p f i load passed c.asked c.along c.stage known.0))
    where
      stays : (s : Step) → Goes t m p f i c.asked.text s m' → IsOfTry p.now i s → (w : Option Work) → IfSome w (KnowsWork m p f i) → IfSome w (WorkLooksAtFew t.shape.slots f)
          → IfSome w (WorkLooksAtFew t.shape.slots (flow_of p f i c.asked.text s m))
      stays s goes try None known few = tt
      stays s goes try (Some w) known few =
          work_looks t.shape.slots m p f m' (past_by p i c.asked.text s m) (flow_of p f i c.asked.text s m) i (goes.leaves try) w known few

  -- a poll of a resize, and of any work
  resize_few : (caller : Caller) (d : Direction) (w : ResizeAlong) (s : ResizeStage) → KnowsResize m p.now f i d w s → ResizeLooksAtFew t.shape.slots f d w s
      → FewAfter [] (resize_row t.shape d w s).step (λ word. machine.Poll (polling caller (of_resize (record { direction = d; along = w; stage = s }) ((resize_row t.shape d w s).next word))))
  resize_few caller Grow w s known few made goes =
      let does = resize_row t.shape Grow w s in
      let came : Went = does.next (found does.step m) in
      left_looks t.shape.slots (flow_of p f i [] does.step m) (work.Resize (record { direction = Grow; along = came.0; stage = came.1 })) came.2 (grow_looks t m m' p f i [] table w s known few made)
  resize_few caller Shrink w s known few made goes =
      let does = resize_row t.shape Shrink w s in
      let came : Went = does.next (found does.step m) in
      left_looks t.shape.slots (flow_of p f i [] does.step m) (work.Resize (record { direction = Shrink; along = came.0; stage = came.1 })) came.2
      (shrink_looks t m m' p f i [] table known.0 w known.1 s known.2 few made)

  work_few : (caller : Caller) (w : Work) → KnowsWork m p f i w → WorkLooksAtFew t.shape.slots f w → FewAfter [] (work_row t.shape w).step (λ word. machine.Poll (polling caller ((work_row t.shape w).next word)))
  work_few caller (work.Clean c) known few made goes =
      let does = cleans.clean_row t.shape c.along c.stage in
      let came = does.next (found does.step m) in
      left_looks t.shape.slots (flow_of p f i [] does.step m) (work.Clean (record { along = came.0; stage = came.1 })) came.2 tt
  work_few caller (work.Resize r) known few made goes = resize_few caller r.direction r.along r.stage known few made goes

  poll_few : (load : ℕ) (passed : List ℕ) (q : Polling) → q.caller.shape ≡ t.shape → KnowsMachine m p f i load passed (machine.Poll q) → LooksAtFew t.shape.slots f (doing.Running (machine.Poll q))
      → IfMakes (λ (does : Row Machine). FewAfter [] does.step does.next) (turn_of (machine.Poll q))
  poll_few load passed q shape known few =
      mapped (FewAfter []) (λ at. machine.Poll (polling q.caller at)) (poll_turn q.caller (state_of q)) (by_answer q.answer refl)
    where
      by_answer : (a : Option Answer) → q.answer ≡ a → IfMakes (λ (does : Row (Work × Option Answer)). FewAfter [] does.step (λ word. machine.Poll (polling q.caller (does.next word)))) (turn_by (work_row q.caller.shape) (q.work, a))
      by_answer (Some a) is = tt
      by_answer None is =
          let knows : KnowsWork m p f i q.work = subst (λ (a : Option Answer). IfSome (work_left q.work a) (KnowsWork m p f i)) is known.1 in
          let looks : WorkLooksAtFew t.shape.slots f q.work = subst (λ (a : Option Answer). IfSome (work_left q.work a) (WorkLooksAtFew t.shape.slots f)) is few in
          subst (λ (shape : Shape). FewAfter [] (work_row shape q.work).step (λ word. machine.Poll (polling q.caller ((work_row shape q.work).next word)))) (sym shape) (work_few q.caller q.work knows looks)

  -- any machine
  pub machine_looks : (load : ℕ) (passed : List ℕ) (k : Machine) (s : Step) → IsOfSeat t p.now i k → KnowsMachine m p f i load passed k → LooksAtFew t.shape.slots f (doing.Running k) → plan_of k ≡ plan.Step s
      → FewAfter (text_of k) s (λ word. next_in k (turn_of k) word)
  machine_looks load passed (machine.Call c w g) s of known few is =
      if_planned (FewAfter c.asked.text) (machine.Call c w g) (turn_of (machine.Call c w g)) s (call_few load passed c w g known few) is
  machine_looks load passed (machine.Begin b) s of known few is =
      if_planned (FewAfter []) (machine.Begin b) (turn_of (machine.Begin b)) s
      (mapped (FewAfter []) (λ s. machine.Begin (record b { stage = s })) (begin_turn b.caller b.stage) (any_make _ (λ does made goes. tt) (begin_turn b.caller b.stage))) is
  machine_looks load passed (machine.Poll q) s of known few is =
      if_planned (FewAfter []) (machine.Poll q) (turn_of (machine.Poll q)) s (poll_few load passed q of.shape known few) is
  machine_looks load passed (machine.Sweep w) s of known few is =
      if_planned (FewAfter []) (machine.Sweep w) (turn_of (machine.Sweep w)) s
      (mapped (FewAfter []) (λ at. machine.Sweep (sweeps.goes_to w.asked at)) (sweep_turn w.asked w.along w.stage) (any_make _ (λ does made goes. tt) (sweep_turn w.asked w.along w.stage))) is
