-- After a step of a seat its grow has few graces still.
use Rattle.std.proofs.Common.{◌≡◌, ℕ, List, [], ◌++◌, Option, Some, None, IfSome, refl, sym, subst, ◌∙◌}
use Rattle.table_shape.specs.declared.shape.Shape.{Shape}
use Rattle.intern_log.specs.declared.event.Event.{Event}
use Rattle.atomic_step.specs.declared.answer.Answer.{Answer}
use Rattle.atomic_step.specs.declared.answer.Answer.TheVariants as answer
use Rattle.atomic_step.specs.declared.plan.Plan.TheVariants as plan
use Rattle.atomic_step.specs.declared.step.Step.{Step}
use Rattle.atomic_step.specs.Event.{event_of}
use Rattle.call_machine.specs.Polls.{turn_by}
use Rattle.atomic_step.specs.Turn.{Row, Turn, Answered, Makes, next_in}
use Rattle.call_machine.specs.declared.caller.Caller.{Caller}
use Rattle.call_machine.specs.declared.grace.Grace.{Grace}
use Rattle.call_machine.specs.declared.machine.Machine.{Machine}
use Rattle.call_machine.specs.declared.machine.Machine.TheVariants as machine
use Rattle.call_machine.specs.declared.poll.Polling.{Polling}
use Rattle.call_machine.specs.declared.resize.Direction.{Direction}
use Rattle.call_machine.specs.declared.resize.Direction.TheVariants.{Grow, Shrink}
use Rattle.call_machine.specs.declared.resize.ResizeAlong.{ResizeAlong}
use Rattle.call_machine.specs.declared.resize.ResizeStage.{ResizeStage}
use Rattle.call_machine.specs.declared.stage.Along.{Along}
use Rattle.call_machine.specs.declared.stage.Calling.{Calling}
use Rattle.call_machine.specs.declared.stage.CallStage.{CallStage}
use Rattle.call_machine.specs.declared.work.Work.{Work}
use Rattle.call_machine.specs.declared.work.Work.TheVariants as work
use Rattle.call_machine.specs.Begin.{begin_turn}
use Rattle.call_machine.specs.Calls.{turn_at, goes_to}
use Rattle.call_machine.specs.Clean as cleans
use Rattle.call_machine.specs.Machine.{plan_of, turn_of, text_of}
use Rattle.call_machine.specs.Poll.{poll_turn, polling, state_of, work_left}
use Rattle.call_machine.specs.Resize.{Went, resize_row}
use Rattle.call_machine.specs.Sweep as sweeps
use Rattle.call_machine.specs.Sweep.{sweep_turn}
use Rattle.call_machine.specs.Work.{work_row, of_resize}
use Rattle.cht_core.specs.declared.seat.Seat.TheVariants as doing
use Rattle.cht_core.specs.declared.table.Table.{Table}
use Rattle.cht_core.specs.Backs.{Goes, IsOfTry}
use Rattle.cht_core.specs.Flow.{Flow}
use Rattle.cht_core.specs.Graces.{ResizesWithFew, WorksWithFew, IsAnswerWithFew, GrowsWithFew}
use Rattle.cht_core.specs.Invariant.{events_of}
use Rattle.cht_core.specs.KnowsResize.{KnowsResize}
use Rattle.cht_core.specs.KnowsWork.{KnowsWork}
use Rattle.cht_core.specs.Memory.{Memory, IsMade, found}
use Rattle.cht_core.specs.Past.{Past, past_of}
use Rattle.cht_core.specs.TableState.{IsTable}
use Rattle.cht_core.specs.View.{IsOfSeat, KnowsMachine}
use Rattle.cht_core.proofs.EnteredCounts.{no_fewer}
use Rattle.cht_core.proofs.FewGraces.{AnswersFew, grow_few}
use Rattle.cht_core.proofs.FewSeats.{of_some, work_owner, seat_stays, left_few, clean_few}
use Rattle.cht_core.proofs.MachineCalls.{calls_try}
use Rattle.cht_core.proofs.MachineSteps.{mapped, both_make}
use Rattle.cht_core.proofs.Turns.{IfMakes, if_planned, past_by, flow_of}

-- what is so of each row is so of that of a turn
pub any_make : {S : Type 0} (P : Row S → Type 0) → ((does : Row S) → P does) → (turn : Turn S) → IfMakes P turn
any_make P all (Answered a) = tt
any_make P all (Makes does) = all does

-- what a grow answers, and a shrink
grow_answers : (log : List Event) (w : ResizeAlong) (s : ResizeStage) (o : Option Answer) → IfSome o (AnswersFew log) → IfSome o (IsAnswerWithFew log (work.Resize (record { direction = Grow; along = w; stage = s })))
grow_answers log w s None few = tt
grow_answers log w s (Some (answer.Done did)) few = few
grow_answers log w s (Some _) few = tt

shrink_answers : (log : List Event) (w : ResizeAlong) (s : ResizeStage) (o : Option Answer) → IfSome o (IsAnswerWithFew log (work.Resize (record { direction = Shrink; along = w; stage = s })))
shrink_answers log w s None = tt
shrink_answers log w s (Some (answer.Done did)) = tt
shrink_answers log w s (Some _) = tt

module _ (t : Table) (m m' : Memory) (log : List Event) (f : Flow) (i : ℕ) (table : IsTable t m (past_of t.shape.min_level log) f) where
  abbrev p : Past
  p = past_of t.shape.min_level log

  -- the log after a step
  abbrev log_by : List ℕ → Step → List Event
  log_by text s = log ++ events_of i (event_of text s (found s m))

  -- what came of a step
  abbrev FewAfter : List ℕ → Step → (ℕ → Machine) → Type 0
  FewAfter text s next = IsMade s m m' → Goes t m p f i text s m' → GrowsWithFew (past_by p i text s m).now (log_by text s) (flow_of p f i text s m) (doing.Running (next (found s m)))

  -- a call leaves the work of its seat as it is
  call_few : (load : ℕ) (passed : List ℕ) (c : Calling) (w : Option Work) (g : Option Grace) → KnowsMachine m p f i load passed (machine.Call c w g) → GrowsWithFew p.now log f (doing.Running (machine.Call c w g))
      → IfMakes (λ (does : Row Machine). FewAfter c.asked.text does.step does.next) (turn_of (machine.Call c w g))
  call_few load passed c w g known few =
      mapped (FewAfter c.asked.text) (λ at. machine.Call (goes_to c.asked at) w g) (turn_at c.asked c.along c.stage)
      (both_make (λ (does : Row (Along × CallStage)). IsOfTry p.now i does.step) (λ (does : Row (Along × CallStage)). IsOfTry p.now i does.step)
      (λ (does : Row (Along × CallStage)). FewAfter c.asked.text does.step (λ word. machine.Call (goes_to c.asked (does.next word)) w g)) (turn_at c.asked c.along c.stage)
      (λ does try same made goes.
      seat_stays p.now (past_by p i c.asked.text does.step m).now log (log_by c.asked.text does.step) goes.grows.seed (λ test. no_fewer test log (events_of i (event_of c.asked.text does.step (found does.step m))))
      f (flow_of p f i c.asked.text does.step m) (doing.Running (machine.Call c w g))
      (λ u is x not whole. not (sym (((goes.leaves try).still (work_owner m p f i u (of_some (KnowsWork m p f i) w u is known.1))).parted x) ∙ whole)) few)
      (calls_try m p f i load passed c.asked c.along c.stage known.0) (calls_try m p f i load passed c.asked c.along c.stage known.0))

  -- a poll of a resize, and of any work
  resize_few : (caller : Caller) (d : Direction) (w : ResizeAlong) (s : ResizeStage) → KnowsResize m p.now f i d w s → ResizesWithFew p.now log f d w s
      → FewAfter [] (resize_row t.shape d w s).step (λ word. machine.Poll (polling caller (of_resize (record { direction = d; along = w; stage = s }) ((resize_row t.shape d w s).next word))))
  resize_few caller Grow w s known few made goes =
      let does = resize_row t.shape Grow w s in
      let came : Went = does.next (found does.step m) in
      let comes = grow_few t m m' log (log_by [] does.step) f i [] (past_by p i [] does.step m).now table goes.grows.seed (λ test. no_fewer test log (events_of i (event_of [] does.step (found does.step m)))) w s known few made in
      left_few (past_by p i [] does.step m).now (log_by [] does.step) (flow_of p f i [] does.step m) (work.Resize (record { direction = Grow; along = came.0; stage = came.1 })) came.2 comes.0
      (grow_answers (log_by [] does.step) came.0 came.1 came.2 comes.1)
  resize_few caller Shrink w s known few made goes =
      let does = resize_row t.shape Shrink w s in
      let came : Went = does.next (found does.step m) in
      left_few (past_by p i [] does.step m).now (log_by [] does.step) (flow_of p f i [] does.step m) (work.Resize (record { direction = Shrink; along = came.0; stage = came.1 })) came.2 tt
      (shrink_answers (log_by [] does.step) came.0 came.1 came.2)

  work_few : (caller : Caller) (w : Work) → KnowsWork m p f i w → WorksWithFew p.now log f w → FewAfter [] (work_row t.shape w).step (λ word. machine.Poll (polling caller ((work_row t.shape w).next word)))
  work_few caller (work.Clean c) known few made goes =
      let does = cleans.clean_row t.shape c.along c.stage in
      let came = does.next (found does.step m) in
      clean_few (past_by p i [] does.step m).now (log_by [] does.step) (flow_of p f i [] does.step m) (record { along = came.0; stage = came.1 }) came.2
  work_few caller (work.Resize r) known few made goes = resize_few caller r.direction r.along r.stage known few made goes

  poll_few : (load : ℕ) (passed : List ℕ) (q : Polling) → q.caller.shape ≡ t.shape → KnowsMachine m p f i load passed (machine.Poll q) → GrowsWithFew p.now log f (doing.Running (machine.Poll q))
      → IfMakes (λ (does : Row Machine). FewAfter [] does.step does.next) (turn_of (machine.Poll q))
  poll_few load passed q shape known few =
      mapped (FewAfter []) (λ at. machine.Poll (polling q.caller at)) (poll_turn q.caller (state_of q)) (by_answer q.answer refl)
    where
      by_answer : (a : Option Answer) → q.answer ≡ a → IfMakes (λ (does : Row (Work × Option Answer)). FewAfter [] does.step (λ word. machine.Poll (polling q.caller (does.next word)))) (turn_by (work_row q.caller.shape) (q.work, a))
      by_answer (Some a) is = tt
      by_answer None is =
          let knows : KnowsWork m p f i q.work = subst (λ (a : Option Answer). IfSome (work_left q.work a) (KnowsWork m p f i)) is known.1 in
          let works : WorksWithFew p.now log f q.work = subst (λ (a : Option Answer). IfSome (work_left q.work a) (WorksWithFew p.now log f)) is few.0 in
          subst (λ (shape : Shape). FewAfter [] (work_row shape q.work).step (λ word. machine.Poll (polling q.caller ((work_row shape q.work).next word)))) (sym shape) (work_few q.caller q.work knows works)

  -- any machine
  pub machine_few : (load : ℕ) (passed : List ℕ) (k : Machine) (s : Step) → IsOfSeat t p.now i k → KnowsMachine m p f i load passed k → GrowsWithFew p.now log f (doing.Running k) → plan_of k ≡ plan.Step s
      → FewAfter (text_of k) s (λ word. next_in k (turn_of k) word)
  machine_few load passed (machine.Call c w g) s of known few is =
      if_planned (FewAfter c.asked.text) (machine.Call c w g) (turn_of (machine.Call c w g)) s (call_few load passed c w g known few) is
  machine_few load passed (machine.Begin b) s of known few is =
      if_planned (FewAfter []) (machine.Begin b) (turn_of (machine.Begin b)) s
      (mapped (FewAfter []) (λ s. machine.Begin (record b { stage = s })) (begin_turn b.caller b.stage) (any_make _ (λ does made goes. (tt, tt)) (begin_turn b.caller b.stage))) is
  machine_few load passed (machine.Poll q) s of known few is =
      if_planned (FewAfter []) (machine.Poll q) (turn_of (machine.Poll q)) s (poll_few load passed q of.shape known few) is
  machine_few load passed (machine.Sweep w) s of known few is =
      if_planned (FewAfter []) (machine.Sweep w) (turn_of (machine.Sweep w)) s
      (mapped (FewAfter []) (λ at. machine.Sweep (sweeps.goes_to w.asked at)) (sweep_turn w.asked w.along w.stage) (any_make _ (λ does made goes. (tt, tt)) (sweep_turn w.asked w.along w.stage))) is
