-- What a seat has found after its own step.
use Rattle.std.proofs.Common.{◌≡◌, ◌==◌, ℕ, false, inr, List, [], ◌++◌, Option, Some, None, IfSome, refl, sym, subst}
use Rattle.table_shape.specs.declared.shape.Shape.{Shape}
use Rattle.intern_log.specs.declared.event.Event.{Event}
use Rattle.intern_log.specs.declared.event.Kind.TheVariants.{Counted, Weak}
use Rattle.intern_log.specs.declared.event.What.{What}
use Rattle.intern_log.specs.declared.event.What.TheVariants as what
use Rattle.intern_log.specs.Now.{Now}
use Rattle.atomic_step.specs.declared.answer.Answer.{Answer}
use Rattle.atomic_step.specs.declared.count.Change.TheVariants.{Drop, Permanent, Kill}
use Rattle.atomic_step.specs.declared.plan.Plan.TheVariants as plan
use Rattle.atomic_step.specs.declared.step.Step.{Step}
use Rattle.atomic_step.specs.declared.step.Step.TheVariants as step
use Rattle.atomic_step.specs.Count.{handle_at, holds_of}
use Rattle.atomic_step.specs.Event.{event_of}
use Rattle.atomic_step.specs.Turn.{Row, next_in}
use Rattle.atomic_step.proofs.Choices.{either_way}
use Rattle.call_machine.specs.declared.caller.Caller.{Caller}
use Rattle.call_machine.specs.declared.grace.Grace.{Grace}
use Rattle.call_machine.specs.declared.machine.Machine.{Machine}
use Rattle.call_machine.specs.declared.machine.Machine.TheVariants as machine
use Rattle.call_machine.specs.declared.poll.Polling.{Polling}
use Rattle.call_machine.specs.declared.stage.Along.{Along}
use Rattle.call_machine.specs.declared.stage.Calling.{Calling}
use Rattle.call_machine.specs.declared.stage.CallStage.{CallStage}
use Rattle.call_machine.specs.declared.sweep.SweepAlong.{SweepAlong}
use Rattle.call_machine.specs.declared.sweep.SweepStage.{SweepStage}
use Rattle.call_machine.specs.declared.sweep.Sweeping.{Sweeping}
use Rattle.call_machine.specs.declared.work.Work.{Work}
use Rattle.call_machine.specs.declared.work.Work.TheVariants as work
use Rattle.call_machine.specs.Begin.{begin_turn}
use Rattle.call_machine.specs.Calls.{turn_at, goes_to}
use Rattle.call_machine.specs.Clean as cleans
use Rattle.call_machine.specs.Machine.{plan_of, turn_of, text_of}
use Rattle.call_machine.specs.Poll.{poll_turn, polling, state_of, work_left}
use Rattle.call_machine.specs.Polls.{turn_by}
use Rattle.call_machine.specs.Resize as resizes
use Rattle.call_machine.specs.Sweep as sweeps
use Rattle.call_machine.specs.Sweep.{sweep_turn}
use Rattle.call_machine.specs.Work.{work_row, IsSoundWork}
use Rattle.cht_core.specs.declared.seat.Seat.TheVariants as doing
use Rattle.cht_core.specs.declared.table.Table.{Table}
use Rattle.cht_core.specs.Backs.{Goes, IsOfTry}
use Rattle.cht_core.specs.Flow.{Flow}
use Rattle.cht_core.specs.Invariant.{events_of}
use Rattle.cht_core.specs.KnowsWork.{KnowsWork}
use Rattle.cht_core.specs.Memory.{Memory, IsMade, found}
use Rattle.cht_core.specs.Passes.{WorkFinds, PassesFind, is_taken}
use Rattle.cht_core.specs.Past.{Past, past_of}
use Rattle.cht_core.specs.TableState.{IsTable}
use Rattle.cht_core.specs.View.{IsOfSeat, KnowsMachine}
use Rattle.cht_core.proofs.CleanFound.{clean_found, left_finds}
use Rattle.cht_core.proofs.FewSeats.{if_some, of_some}
use Rattle.cht_core.proofs.FewSteps.{any_make}
use Rattle.cht_core.proofs.FoundSeats.{work_finds_stay, resize_left}
use Rattle.cht_core.proofs.MachineCalls.{calls_try}
use Rattle.cht_core.proofs.MachineSteps.{mapped, both_make}
use Rattle.cht_core.proofs.SweepBuckets.{StaysAt, sweep_at}
use Rattle.cht_core.proofs.SweepFound.{SweepCame, sweep_found}
use Rattle.cht_core.proofs.Turns.{IfMakes, if_planned, past_by, flow_of}

-- a try call takes no resize lock
abbrev TakesNone : Option What → Type 0
TakesNone e = IfSome e (λ w. is_taken w ≡ false)

try_takes_none : (n : Now) (i : ℕ) (text : List ℕ) (s : Step) (word : ℕ) → IsOfTry n i s → TakesNone (event_of text s word)
try_takes_none n i text (step.OpenSection number counter) word try = refl
try_takes_none n i text (step.CloseSection number) word try = refl
try_takes_none n i text (step.SeeEntry Counted slot) word try = tt
try_takes_none n i text (step.SeeEntry Weak slot) word try = either_way TakesNone (holds_of word == 0) None (Some (what.Found text (handle_at slot word))) tt refl
try_takes_none n i text (step.SeeHandle Drop h) word try = either_way TakesNone (holds_of word == 65535) (Some (what.Drop h)) None refl tt
try_takes_none n i text (step.SeeHandle Permanent h) word try = tt
try_takes_none n i text (step.SeeHandle Kill h) word try = tt
try_takes_none n i text (step.TakeEntry slot count) word try = either_way TakesNone (word == count) (Some (what.Take text (handle_at slot count))) None refl tt
try_takes_none n i text (step.ChangeEntry Drop h count) word try = either_way TakesNone (word == count) (Some (what.Drop h)) None refl tt
try_takes_none n i text (step.ChangeEntry Permanent h count) word try = either_way TakesNone (word == count) (Some (what.Perm h)) None refl tt
try_takes_none n i text (step.ChangeEntry Kill h count) word try = either_way TakesNone (word == count) (Some (what.Kill h)) None refl tt
try_takes_none n i text (step.ClaimSlot slot) word try = either_way TakesNone (word == 0) (Some (what.Claim slot)) None refl tt
try_takes_none n i text (step.FreeSlot slot) word try = refl
try_takes_none n i text (step.CreateEntry h row bucket head) word try = either_way TakesNone (word == head) (Some (what.Create text h)) None refl tt
try_takes_none n i text step.RaiseCounter word try = refl
try_takes_none n i text (step.LockHead row bucket head) word try = absurd try
try_takes_none n i text (step.UnlockHead row bucket first) word try = refl
try_takes_none n i text (step.Unlink slot edge next) word try = refl
try_takes_none n i text (step.TakeResizeLock number) word try = absurd try
try_takes_none n i text step.GiveResizeLock word try = refl
try_takes_none n i text (step.PutHead row bucket first) word try = refl
try_takes_none n i text (step.StoreLevel level) word try = refl
try_takes_none n i text _ word try = tt

module _ (t : Table) (m m' : Memory) (log : List Event) (f : Flow) (i : ℕ) (table : IsTable t m (past_of t.shape.min_level log) f) where
  abbrev p : Past
  p = past_of t.shape.min_level log

  -- the log after a step
  abbrev log_by : List ℕ → Step → List Event
  log_by text s = log ++ events_of i (event_of text s (found s m))

  -- what came of a step
  abbrev FoundAfter : List ℕ → Step → (ℕ → Machine) → Type 0
  FoundAfter text s next = IsMade s m m' → Goes t m p f i text s m' → PassesFind t (past_by p i text s m).now (log_by text s) (flow_of p f i text s m) i (doing.Running (next (found s m)))

  -- a call leaves the work of its seat as it is
  call_finds : (load : ℕ) (passed : List ℕ) (c : Calling) (w : Option Work) (g : Option Grace) → KnowsMachine m p f i load passed (machine.Call c w g) → PassesFind t p.now log f i (doing.Running (machine.Call c w g))
      → IfMakes (λ (does : Row Machine). FoundAfter c.asked.text does.step does.next) (turn_of (machine.Call c w g))
  call_finds load passed c w g known finds =
      mapped (FoundAfter c.asked.text) (λ at. machine.Call (goes_to c.asked at) w g) (turn_at c.asked c.along c.stage)
      (both_make (λ (does : Row (Along × CallStage)). IsOfTry p.now i does.step) (λ (does : Row (Along × CallStage)). IsOfTry p.now i does.step)
      (λ (does : Row (Along × CallStage)). FoundAfter c.asked.text does.step (λ word. machine.Call (goes_to c.asked (does.next word)) w g)) (turn_at c.asked c.along c.stage)
      (λ does try same made goes. (
        if_some (WorkFinds t p.now log f i) (WorkFinds t (past_by p i c.asked.text does.step m).now (log_by c.asked.text does.step) (flow_of p f i c.asked.text does.step m) i) w (λ u is work.
            work_finds_stay t m log f (flow_of p f i c.asked.text does.step m) i i (event_of c.asked.text does.step (found does.step m)) goes.grows.seed (goes.leaves try).chains
            (inr (try_takes_none p.now i c.asked.text does.step (found does.step m) try)) u (of_some (KnowsWork m p f i) w u is known.1) work) finds.0,
        tt,
      ))
      (calls_try m p f i load passed c.asked c.along c.stage known.0) (calls_try m p f i load passed c.asked c.along c.stage known.0))

  -- a poll of a work
  work_finds : (caller : Caller) (w : Work) → IsSoundWork t.shape w → KnowsWork m p f i w → WorkFinds t p.now log f i w → FoundAfter [] (work_row t.shape w).step (λ word. machine.Poll (polling caller ((work_row t.shape w).next word)))
  work_finds caller (work.Clean c) sound known finds made goes =
      let does = cleans.clean_row t.shape c.along c.stage in
      let came = does.next (found does.step m) in
      let comes = clean_found t m m' log f i table c.along finds.0 known.0 c.stage sound known.1 finds.1 made goes in
      left_finds t (past_by p i [] does.step m).now (log_by [] does.step) (flow_of p f i [] does.step m) i (record { along = came.0; stage = came.1 }) came.2 (comes.0, comes.1) comes.2
  work_finds caller (work.Resize r) sound known finds made goes =
      let does = resizes.resize_row t.shape r.direction r.along r.stage in
      let came = does.next (found does.step m) in
      resize_left t (past_by p i [] does.step m).now (log_by [] does.step) (flow_of p f i [] does.step m) i (record r { along = came.0; stage = came.1 }) came.2

  poll_finds : (load : ℕ) (passed : List ℕ) (q : Polling) → q.caller.shape ≡ t.shape → IsSoundWork q.caller.shape q.work → KnowsMachine m p f i load passed (machine.Poll q)
      → PassesFind t p.now log f i (doing.Running (machine.Poll q)) → IfMakes (λ (does : Row Machine). FoundAfter [] does.step does.next) (turn_of (machine.Poll q))
  poll_finds load passed q shape sound known finds =
      mapped (FoundAfter []) (λ at. machine.Poll (polling q.caller at)) (poll_turn q.caller (state_of q)) (by_answer q.answer refl)
    where
      by_answer : (a : Option Answer) → q.answer ≡ a → IfMakes (λ (does : Row (Work × Option Answer)). FoundAfter [] does.step (λ word. machine.Poll (polling q.caller (does.next word)))) (turn_by (work_row q.caller.shape) (q.work, a))
      by_answer (Some a) is = tt
      by_answer None is =
          let knows : KnowsWork m p f i q.work = subst (λ (a : Option Answer). IfSome (work_left q.work a) (KnowsWork m p f i)) is known.1 in
          let works : WorkFinds t p.now log f i q.work = subst (λ (a : Option Answer). IfSome (work_left q.work a) (WorkFinds t p.now log f i)) is finds.0 in
          subst (λ (shape : Shape). FoundAfter [] (work_row shape q.work).step (λ word. machine.Poll (polling q.caller ((work_row shape q.work).next word)))) (sym shape)
          (work_finds q.caller q.work (subst (λ (shape : Shape). IsSoundWork shape q.work) shape sound) knows works)

  -- a sweep
  sweep_finds : (load : ℕ) (passed : List ℕ) (s : Sweeping) → IsOfSeat t p.now i (machine.Sweep s) → KnowsMachine m p f i load passed (machine.Sweep s) → PassesFind t p.now log f i (doing.Running (machine.Sweep s))
      → IfMakes (λ (does : Row Machine). FoundAfter [] does.step does.next) (turn_of (machine.Sweep s))
  sweep_finds load passed s of known finds =
      mapped (FoundAfter []) (λ at. machine.Sweep (sweeps.goes_to s.asked at)) (sweep_turn s.asked s.along s.stage)
      (both_make (λ (does : Row (SweepAlong × SweepStage)). IsMade does.step m m' → Goes t m p f i [] does.step m' →
      SweepCame t (past_by p i [] does.step m).now (log_by [] does.step) (flow_of p f i [] does.step m) i (does.next (found does.step m))) (StaysAt s.asked.hash)
      (λ (does : Row (SweepAlong × SweepStage)). FoundAfter [] does.step (λ word. machine.Sweep (sweeps.goes_to s.asked (does.next word)))) (sweep_turn s.asked s.along s.stage)
      (λ does came at made goes. (tt, let (few, finds) = came made goes in (few, finds, at (found does.step m))))
      (sweep_found t m m' log f i table s.asked s.along of.shape of.number finds.1.0 s.stage of.sound known finds.1.1)
      (sweep_at m p f i s.asked s.along s.stage known finds.1.2))

  -- any machine
  pub machine_finds : (load : ℕ) (passed : List ℕ) (k : Machine) (s : Step) → IsOfSeat t p.now i k → KnowsMachine m p f i load passed k → PassesFind t p.now log f i (doing.Running k) → plan_of k ≡ plan.Step s
      → FoundAfter (text_of k) s (λ word. next_in k (turn_of k) word)
  machine_finds load passed (machine.Call c w g) s of known finds is =
      if_planned (FoundAfter c.asked.text) (machine.Call c w g) (turn_of (machine.Call c w g)) s (call_finds load passed c w g known finds) is
  machine_finds load passed (machine.Begin b) s of known finds is =
      if_planned (FoundAfter []) (machine.Begin b) (turn_of (machine.Begin b)) s
      (mapped (FoundAfter []) (λ s. machine.Begin (record b { stage = s })) (begin_turn b.caller b.stage) (any_make _ (λ does made goes. (tt, tt)) (begin_turn b.caller b.stage))) is
  machine_finds load passed (machine.Poll q) s of known finds is =
      if_planned (FoundAfter []) (machine.Poll q) (turn_of (machine.Poll q)) s (poll_finds load passed q of.shape of.sound.work known finds) is
  machine_finds load passed (machine.Sweep w) s of known finds is =
      if_planned (FoundAfter []) (machine.Sweep w) (turn_of (machine.Sweep w)) s (sweep_finds load passed w of known finds) is
