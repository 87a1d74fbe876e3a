-- What a step of a machine makes of how many numbers it may draw and how often it may raise the counter.
use Rattle.std.proofs.Common.{◌≡◌, ◌≢◌, ℕ, List, Option, Some, None, IfSome, inl, refl, subst, ◌∙◌, arith}
use Rattle.table_shape.specs.declared.place.Place.TheVariants as place
use Rattle.atomic_step.specs.declared.answer.Answer.{Answer}
use Rattle.atomic_step.specs.declared.plan.Plan.TheVariants as plan
use Rattle.atomic_step.specs.declared.step.Step.{Step}
use Rattle.atomic_step.specs.declared.step.Step.TheVariants as step
use Rattle.atomic_step.specs.Turn.{Turn, Answered, Makes, map_turn, plan_in, next_in}
use Rattle.call_machine.specs.declared.begin.Beginning.{Beginning}
use Rattle.call_machine.specs.declared.begin.BeginStage.{BeginStage}
use Rattle.call_machine.specs.declared.begin.BeginStage.TheVariants as begin
use Rattle.call_machine.specs.declared.caller.Caller.{Caller}
use Rattle.call_machine.specs.declared.grace.Grace.{Grace}
use Rattle.call_machine.specs.declared.grace.GraceStage.TheVariants.{RaiseCounter, LoadSection}
use Rattle.call_machine.specs.declared.machine.Machine.{Machine}
use Rattle.call_machine.specs.declared.machine.Machine.TheVariants as machine
use Rattle.call_machine.specs.declared.poll.Polling.{Polling}
use Rattle.call_machine.specs.declared.stage.Along.{Along}
use Rattle.call_machine.specs.declared.stage.Calling.{Calling}
use Rattle.call_machine.specs.declared.stage.CallStage.{CallStage}
use Rattle.call_machine.specs.declared.lock.LockStage.TheVariants.{LockHead}
use Rattle.call_machine.specs.declared.sweep.SweepAlong.{SweepAlong}
use Rattle.call_machine.specs.declared.sweep.SweepAsked.{SweepAsked}
use Rattle.call_machine.specs.declared.sweep.SweepStage.{SweepStage}
use Rattle.call_machine.specs.declared.sweep.SweepStage.TheVariants as sweep
use Rattle.call_machine.specs.declared.sweep.Sweeping.{Sweeping}
use Rattle.call_machine.specs.declared.work.Work.{Work}
use Rattle.call_machine.specs.declared.work.Work.TheVariants as work
use Rattle.call_machine.specs.Begin.{begin_turn}
use Rattle.call_machine.specs.Calls.{goes_to, turn_at}
use Rattle.call_machine.specs.Clean.{Went, clean_row}
use Rattle.call_machine.specs.Machine.{plan_of, got_of, shape_of}
use Rattle.call_machine.specs.Poll.{poll_turn, state_of, polling, work_left}
use Rattle.call_machine.specs.Sweep.{sweep_turn}
use Rattle.call_machine.specs.Sweep as sweeps
use Rattle.call_machine.specs.Resize as resizes
use Rattle.call_machine.specs.Resize.{resize_row}
use Rattle.call_machine.specs.Work.{of_resize, of_clean, resumes}
use Rattle.cht_core.specs.declared.seat.Seat.{Seat}
use Rattle.cht_core.specs.declared.seat.Seat.TheVariants as doing
use Rattle.cht_core.specs.Bounds.{draws_in}
use Rattle.cht_core.specs.Flow.{Flow}
use Rattle.cht_core.specs.KnowsWork.{KnowsWork}
use Rattle.cht_core.specs.Memory.{Memory, IsMade, found}
use Rattle.cht_core.specs.Past.{Past}
use Rattle.cht_core.specs.View.{KnowsMachine}
use Rattle.cht_core.proofs.BeginBounds.{begin_raises}
use Rattle.cht_core.proofs.BoundSteps.{counter_stays, draws_stay, lock_plain, pass_plain, free_plain, find_plain}
use Rattle.cht_core.proofs.CallBounds.{call_draws}
use Rattle.cht_core.proofs.GraceStages.{CanRaise}
use Rattle.cht_core.proofs.PollBounds.{clean_draws_not, clean_raises}
use Rattle.cht_core.proofs.RaiseWeights.{HasWeight, calls_raise_not, begin_weight, sweep_weight, poll_weight}
use Rattle.cht_core.proofs.SweepBounds.{sweep_raises}
use Rattle.cht_core.proofs.Turns.{IfMakes, if_turned}
use Rattle.cht_core.proofs.ResizeBounds.{resize_raises, resize_draws_not}
use Rattle.cht_core.proofs.WorkBounds.{DrawsBy, RaisesBy}

-- a poll that has not answered is not before a grace that is held back
abbrev pub IsUnheld : Seat → Type 0
IsUnheld s = (q : Polling) → s ≡ doing.Running (machine.Poll q) → q.answer ≡ None → (resumes q.work).1 ≡ None

-- who raises the counter might do so
pub machine_weight : (m : Memory) (p : Past) (f : Flow) (i load : ℕ) (passed : List ℕ) (k : Machine) (s : Step) → KnowsMachine m p f i load passed k → IsUnheld (doing.Running k)
    → plan_of k ≡ plan.Step s → s ≡ step.RaiseCounter → HasWeight (doing.Running k)
machine_weight m p f i load passed (machine.Call c w g) s known unheld planned is = absurd (calls_raise_not c w g s planned is)
machine_weight m p f i load passed (machine.Begin b) s known unheld planned is =
    if_turned (λ (s : Step) nx. s ≡ step.RaiseCounter → HasWeight (doing.Running (machine.Begin b))) (λ x. machine.Begin (record b { stage = x })) (machine.Begin b) (begin_turn b.caller b.stage) s
    (begin_weight b b.stage) planned is
machine_weight m p f i load passed (machine.Poll q) s known unheld planned is =
    if_turned (λ (s : Step) nx. s ≡ step.RaiseCounter → HasWeight (doing.Running (machine.Poll q))) (λ at. machine.Poll (polling q.caller at)) (machine.Poll q) (poll_turn q.caller (state_of q)) s
    (poll_weight m p f i q.caller q.work q.answer known.1 (unheld q refl)) planned is
machine_weight m p f i load passed (machine.Sweep x) s known unheld planned is =
    if_turned (λ (s : Step) nx. s ≡ step.RaiseCounter → HasWeight (doing.Running (machine.Sweep x))) (λ at. machine.Sweep (sweeps.goes_to x.asked at)) (machine.Sweep x)
    (sweep_turn x.asked x.along x.stage) s (sweep_weight x.asked x.along x.stage) planned is

-- what a step raises, and how often its seat may raise it then
call_raises : (m m' : Memory) (c : Calling) (k : Option Work) (g : Option Grace) (turn : Turn (Along × CallStage)) (word : ℕ) → m' place.Counter ≡ m place.Counter
    → RaisesBy (m place.Counter) (m' place.Counter) (doing.Running (machine.Call c k g))
    (doing.Running (next_in (machine.Call c k g) (map_turn (λ at. machine.Call (goes_to c.asked at) k g) turn) word))
call_raises m m' c k g (Answered a) word same = inl (record { counter = omega (arith, same); works = λ w is. inl (w, is, refl) })
call_raises m m' c k g (Makes does) word same = inl (record { counter = omega (arith, same); works = λ w is. inl (w, is, refl) })

poll_raises : (m m' : Memory) (p : Past) (f : Flow) (i : ℕ) (caller : Caller) (w : Work) (a : Option Answer) → IfSome (work_left w a) (KnowsWork m p f i) → (a ≡ None → (resumes w).1 ≡ None)
    → IfMakes (λ does. IsMade does.step m m' → CanRaise m does.step → RaisesBy (m place.Counter) (m' place.Counter) (doing.Running (machine.Poll (polling caller (w, a))))
    (doing.Running (machine.Poll (polling caller (does.next (found does.step m)))))) (poll_turn caller (w, a))
poll_raises m m' p f i caller w (Some a) known low = tt
poll_raises m m' p f i caller (work.Clean c) None known low = λ made may. (clean_raises m m' caller caller.shape c.along c.stage made may (low refl)).0
poll_raises m m' p f i caller (work.Resize r) None known low = λ made may. (resize_raises m m' caller caller.shape r r.stage made may (low refl)).0

-- each step of a machine raises no more than it may
pub machine_raises : (m m' : Memory) (p : Past) (f : Flow) (i load : ℕ) (passed : List ℕ) (k : Machine) (s : Step) → KnowsMachine m p f i load passed k → IsUnheld (doing.Running k)
    → plan_of k ≡ plan.Step s → IsMade s m m' → CanRaise m s → RaisesBy (m place.Counter) (m' place.Counter) (doing.Running k) (doing.Running (got_of k (found s m)))
machine_raises m m' p f i load passed (machine.Call c w g) s known unheld planned made may =
    call_raises m m' c w g (turn_at c.asked c.along c.stage) (found s m) (counter_stays m m' s made (calls_raise_not c w g s planned))
machine_raises m m' p f i load passed (machine.Begin b) s known unheld planned made may =
    if_turned (λ (s : Step) nx. IsMade s m m' → CanRaise m s → RaisesBy (m place.Counter) (m' place.Counter) (doing.Running (machine.Begin b)) (doing.Running (nx (found s m))))
    (λ x. machine.Begin (record b { stage = x })) (machine.Begin b) (begin_turn b.caller b.stage) s (begin_raises m m' p.now f i b b.stage known.1) planned made may
machine_raises m m' p f i load passed (machine.Poll q) s known unheld planned made may =
    if_turned (λ (s : Step) nx. IsMade s m m' → CanRaise m s → RaisesBy (m place.Counter) (m' place.Counter) (doing.Running (machine.Poll q)) (doing.Running (nx (found s m))))
    (λ at. machine.Poll (polling q.caller at)) (machine.Poll q) (poll_turn q.caller (state_of q)) s (poll_raises m m' p f i q.caller q.work q.answer known.1 (unheld q refl)) planned made may
machine_raises m m' p f i load passed (machine.Sweep x) s known unheld planned made may =
    if_turned (λ (s : Step) nx. IsMade s m m' → CanRaise m s → RaisesBy (m place.Counter) (m' place.Counter) (doing.Running (machine.Sweep x)) (doing.Running (nx (found s m))))
    (λ at. machine.Sweep (sweeps.goes_to x.asked at)) (machine.Sweep x) (sweep_turn x.asked x.along x.stage) s (sweep_raises m m' x.asked x.along x.stage) planned made may

-- no work, no sweep and no call that begins one draws a number
pub begin_draws_not : (caller : Caller) (s : BeginStage) → IfMakes (λ does. does.step ≢ step.Draw) (begin_turn caller s)
begin_draws_not caller (begin.LoadCounter t) = λ e. cc
begin_draws_not caller (begin.TakeResizeLock t) = λ e. cc
begin_draws_not caller (begin.LoadLevel d) = λ e. cc
begin_draws_not caller (begin.GiveResizeLock a) = λ e. cc
begin_draws_not caller (begin.Grace g RaiseCounter) = λ e. cc
begin_draws_not caller (begin.Grace g LoadSection) = λ e. cc
begin_draws_not caller (begin.Answered a l) = tt

pub poll_draws_not : (m : Memory) (p : Past) (f : Flow) (i : ℕ) (caller : Caller) (w : Work) (a : Option Answer) → IfSome (work_left w a) (KnowsWork m p f i)
    → IfMakes (λ does. does.step ≢ step.Draw) (poll_turn caller (w, a))
poll_draws_not m p f i caller w (Some a) known = tt
poll_draws_not m p f i caller (work.Clean c) None known = clean_draws_not caller.shape c.along c.stage
poll_draws_not m p f i caller (work.Resize r) None known = resize_draws_not caller.shape r.direction r.along r.stage

pub sweep_draws_not : (q : SweepAsked) (w : SweepAlong) (s : SweepStage) → IfMakes (λ does. does.step ≢ step.Draw) (sweep_turn q w s)
sweep_draws_not q w sweep.Check = λ e. cc
sweep_draws_not q w (sweep.Find s) = (find_plain q.caller.number q.hash w.walk s).1
sweep_draws_not q w sweep.Lock = (lock_plain w.walk.row w.walk.bucket (LockHead w.walk.head)).1
sweep_draws_not q w (sweep.Close why) = λ e. cc
sweep_draws_not q w (sweep.Pass s) = (pass_plain w.cleaning s).1
sweep_draws_not q w sweep.UnlockHead = λ e. cc
sweep_draws_not q w (sweep.Grace RaiseCounter) = λ e. cc
sweep_draws_not q w (sweep.Grace LoadSection) = λ e. cc
sweep_draws_not q w (sweep.Free s) = (free_plain w.cleaning s).1
sweep_draws_not q w (sweep.Answered a) = tt

-- where a machine that is no call makes a step that draws nothing, its seat draws nothing still
none_drawn : {S : Type 0} (m m' : Memory) (k : Machine) (F : S → Machine) (turn : Turn S) (s : Step) → draws_in (doing.Running k) ≡ 0 → ((x : S) → draws_in (doing.Running (F x)) ≡ 0)
    → IfMakes (λ does. does.step ≢ step.Draw) turn → plan_in (map_turn F turn) ≡ plan.Step s → IsMade s m m'
    → DrawsBy (shape_of k).seats (m place.Draws) (m' place.Draws) (doing.Running k) (doing.Running (next_in k (map_turn F turn) (found s m)))
none_drawn {S = S} m m' k F turn s before after not planned made = go turn not planned
  where
    go : (turn : Turn S) → IfMakes (λ does. does.step ≢ step.Draw) turn → plan_in (map_turn F turn) ≡ plan.Step s
        → DrawsBy (shape_of k).seats (m place.Draws) (m' place.Draws) (doing.Running k) (doing.Running (next_in k (map_turn F turn) (found s m)))
    go (Answered a) not planned = absurd (cc)
    go (Makes does) not planned =
        let is : does.step ≡ s = cc in
        let same : m' place.Draws ≡ m place.Draws = draws_stay m m' s made (λ drawn. not (is ∙ drawn)) in
        let none : draws_in (doing.Running (F (does.next (found s m)))) ≡ 0 = after (does.next (found s m)) in
        inl (omega (arith, same, none))

-- each step of a machine draws no more than it may
pub machine_draws : (m m' : Memory) (p : Past) (f : Flow) (i load : ℕ) (passed : List ℕ) (k : Machine) (s : Step) → KnowsMachine m p f i load passed k
    → plan_of k ≡ plan.Step s → IsMade s m m' → DrawsBy (shape_of k).seats (m place.Draws) (m' place.Draws) (doing.Running k) (doing.Running (got_of k (found s m)))
machine_draws m m' p f i load passed (machine.Call c w g) s known planned made =
    if_turned (λ (s : Step) nx. IsMade s m m' → DrawsBy c.asked.shape.seats (m place.Draws) (m' place.Draws) (doing.Running (machine.Call c w g)) (doing.Running (nx (found s m))))
    (λ at. machine.Call (goes_to c.asked at) w g) (machine.Call c w g) (turn_at c.asked c.along c.stage) s (call_draws m m' c.asked w g c.along c.stage) planned made
machine_draws m m' p f i load passed (machine.Begin b) s known planned made =
    none_drawn m m' (machine.Begin b) (λ x. machine.Begin (record b { stage = x })) (begin_turn b.caller b.stage) s refl (λ x. refl) (begin_draws_not b.caller b.stage) planned made
machine_draws m m' p f i load passed (machine.Poll q) s known planned made =
    none_drawn m m' (machine.Poll q) (λ at. machine.Poll (polling q.caller at)) (poll_turn q.caller (state_of q)) s refl (λ x. refl)
    (poll_draws_not m p f i q.caller q.work q.answer known.1) planned made
machine_draws m m' p f i load passed (machine.Sweep x) s known planned made =
    none_drawn m m' (machine.Sweep x) (λ at. machine.Sweep (sweeps.goes_to x.asked at)) (sweep_turn x.asked x.along x.stage) s refl (λ x. refl) (sweep_draws_not x.asked x.along x.stage) planned made

-- a poll that goes on is not before a grace that is held back
calls_poll_not : (c : Calling) (k : Option Work) (g : Option Grace) (turn : Turn (Along × CallStage)) (word : ℕ)
    → IsUnheld (doing.Running (next_in (machine.Call c k g) (map_turn (λ at. machine.Call (goes_to c.asked at) k g) turn) word))
calls_poll_not c k g (Answered a) word q is unanswered = absurd (cc)
calls_poll_not c k g (Makes does) word q is unanswered = absurd (cc)

begins_poll_not : (b : Beginning) (turn : Turn BeginStage) (word : ℕ) → IsUnheld (doing.Running (next_in (machine.Begin b) (map_turn (λ x. machine.Begin (record b { stage = x })) turn) word))
begins_poll_not b (Answered a) word q is unanswered = absurd (cc)
begins_poll_not b (Makes does) word q is unanswered = absurd (cc)

sweeps_poll_not : (x : Sweeping) (turn : Turn (SweepAlong × SweepStage)) (word : ℕ)
    → IsUnheld (doing.Running (next_in (machine.Sweep x) (map_turn (λ at. machine.Sweep (sweeps.goes_to x.asked at)) turn) word))
sweeps_poll_not x (Answered a) word q is unanswered = absurd (cc)
sweeps_poll_not x (Makes does) word q is unanswered = absurd (cc)

poll_stays_unheld : (m m' : Memory) (p : Past) (f : Flow) (i : ℕ) (caller : Caller) (w : Work) (a : Option Answer) → IfSome (work_left w a) (KnowsWork m p f i) → (a ≡ None → (resumes w).1 ≡ None)
    → IfMakes (λ does. IsMade does.step m m' → CanRaise m does.step → IsUnheld (doing.Running (machine.Poll (polling caller (does.next (found does.step m)))))) (poll_turn caller (w, a))
poll_stays_unheld m m' p f i caller w (Some a) known low = tt
poll_stays_unheld m m' p f i caller (work.Clean c) None known low = λ made may q is unanswered.
    let came : Went = (clean_row caller.shape c.along c.stage).next (found (clean_row caller.shape c.along c.stage).step m) in
    let same : polling caller (of_clean came) ≡ q = cc in
    subst (λ (x : Polling). x.answer ≡ None → (resumes x.work).1 ≡ None) same (clean_raises m m' caller caller.shape c.along c.stage made may (low refl)).1 unanswered
poll_stays_unheld m m' p f i caller (work.Resize r) None known low = λ made may q is unanswered.
    let came : resizes.Went = (resize_row caller.shape r.direction r.along r.stage).next (found (resize_row caller.shape r.direction r.along r.stage).step m) in
    let same : polling caller (of_resize r came) ≡ q = cc in
    subst (λ (x : Polling). x.answer ≡ None → (resumes x.work).1 ≡ None) same (resize_raises m m' caller caller.shape r r.stage made may (low refl)).1 unanswered

-- each step of a machine leads to no grace that is held back, unless its poll has answered
pub machine_unheld : (m m' : Memory) (p : Past) (f : Flow) (i load : ℕ) (passed : List ℕ) (k : Machine) (s : Step) → KnowsMachine m p f i load passed k → IsUnheld (doing.Running k)
    → plan_of k ≡ plan.Step s → IsMade s m m' → CanRaise m s → IsUnheld (doing.Running (got_of k (found s m)))
machine_unheld m m' p f i load passed (machine.Call c w g) s known unheld planned made may = calls_poll_not c w g (turn_at c.asked c.along c.stage) (found s m)
machine_unheld m m' p f i load passed (machine.Begin b) s known unheld planned made may = begins_poll_not b (begin_turn b.caller b.stage) (found s m)
machine_unheld m m' p f i load passed (machine.Poll q) s known unheld planned made may =
    if_turned (λ (s : Step) nx. IsMade s m m' → CanRaise m s → IsUnheld (doing.Running (nx (found s m)))) (λ at. machine.Poll (polling q.caller at)) (machine.Poll q)
    (poll_turn q.caller (state_of q)) s (poll_stays_unheld m m' p f i q.caller q.work q.answer known.1 (unheld q refl)) planned made may
machine_unheld m m' p f i load passed (machine.Sweep x) s known unheld planned made may = sweeps_poll_not x (sweep_turn x.asked x.along x.stage) (found s m)
