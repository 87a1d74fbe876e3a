-- What any call has found out of its window: as it begins, as others' events come, by each word that it finds, and where it has answered.
use Rattle.std.proofs.Common.{◌≡◌, ℕ, ◌<◌, ◌^◌, true, false, List, [], ◌++◌, Option, Some, None, refl, sym, ap, subst, ◌∙◌, arith}
use Rattle.std.specs.Prelude.{IfSome}
use Rattle.table_shape.specs.declared.shape.Shape.{Shape}
use Rattle.table_shape.specs.Shape.{IsSound}
use Rattle.intern_log.specs.declared.event.Event.{Event}
use Rattle.intern_log.specs.declared.event.Handle.{Handle}
use Rattle.intern_log.specs.declared.event.What.{What}
use Rattle.intern_log.specs.Now.{owner_of}
use Rattle.atomic_step.specs.declared.answer.Answer.{Answer}
use Rattle.atomic_step.specs.declared.answer.Answer.TheVariants as answer
use Rattle.atomic_step.specs.declared.count.Change.{Change}
use Rattle.atomic_step.specs.declared.count.Change.TheVariants as change
use Rattle.atomic_step.specs.declared.plan.Plan.{Plan}
use Rattle.atomic_step.specs.declared.plan.Plan.TheVariants as plan
use Rattle.atomic_step.specs.Turn.{event_by}
use Rattle.atomic_step.proofs.Choices.{where_it_is}
use Rattle.call_machine.specs.declared.begin.BeginStage.{BeginStage}
use Rattle.call_machine.specs.declared.begin.BeginStage.TheVariants as begin
use Rattle.call_machine.specs.declared.call.Call.{Call}
use Rattle.call_machine.specs.declared.call.Call.TheVariants as call
use Rattle.call_machine.specs.declared.caller.Caller.{Caller}
use Rattle.call_machine.specs.declared.enter.EnterStage.TheVariants.{LoadCounter}
use Rattle.call_machine.specs.declared.find.FindStage.TheVariants as find
use Rattle.call_machine.specs.declared.grace.Grace.{Grace}
use Rattle.call_machine.specs.declared.machine.Machine.{Machine}
use Rattle.call_machine.specs.declared.machine.Machine.TheVariants as machine
use Rattle.call_machine.specs.declared.machine.Own.{Own}
use Rattle.call_machine.specs.declared.stage.Calling.{Calling}
use Rattle.call_machine.specs.declared.stage.CallStage.TheVariants as stage
use Rattle.call_machine.specs.declared.stage.Goal.{Goal}
use Rattle.call_machine.specs.declared.stage.Goal.TheVariants as goal
use Rattle.call_machine.specs.declared.sweep.SweepStage.{SweepStage}
use Rattle.call_machine.specs.declared.sweep.SweepStage.TheVariants as sweep
use Rattle.call_machine.specs.declared.work.Work.{Work}
use Rattle.call_machine.specs.declared.work.Work.TheVariants as work
use Rattle.call_machine.specs.Begin.{left_of}
use Rattle.call_machine.specs.BeginCall as calls
use Rattle.call_machine.specs.Caller.{IsSoundCaller}
use Rattle.call_machine.specs.Calls.{next_at}
use Rattle.call_machine.specs.Machine.{caller_of, starts, started, begun_grace_poll, begun_work_poll, plan_of, got_of, event_of, shape_of}
use Rattle.call_machine.specs.Sought.{is_too_long}
use Rattle.call_machine.specs.SoundCall.{IsHandle}
use Rattle.call_machine.specs.SoundMachine.{IsSoundOwn, MayStart, IsSoundMachine, FitsMachine}
use Rattle.call_machine.proofs.Machines.{plan_part, got_part, plan_is, got_is, event_is, fits_part}
use Rattle.cht_core.specs.declared.table.Table.{Table}
use Rattle.cht_core.specs.Caused.{way_of, Caused, Hears, MayCause, SweepEnds, Cause}
use Rattle.cht_core.specs.Causes.{now_in, IsUnseen, PlanSays, loaded_at, IsResting, BeginCaused, PollEnds, WorkEnds, PollCaused, SweepCaused}
use Rattle.cht_core.specs.CauseCalls.{Way, Walks, Changes, Splits, WasMade, CallCaused}
use Rattle.cht_core.specs.Flow.{Flow}
use Rattle.cht_core.specs.Invariant.{events_of}
use Rattle.cht_core.specs.Past.{Past, past_of}
use Rattle.cht_core.specs.Tidy.{IsTidy}
use Rattle.cht_core.specs.Windows.{IsTold, whats_by}
use Rattle.cht_core.proofs.CauseCallWaits.{call_on}
use Rattle.cht_core.proofs.CauseCleans.{poll_begins, poll_found}
use Rattle.cht_core.proofs.CauseOwns.{owns_begins, owns_waits, owns_steps, owns_answered, answered_at, unseen_waits, unseen_steps}
use Rattle.cht_core.proofs.CauseSteps.{begin_found}
use Rattle.cht_core.proofs.CauseSweeps.{sweep_found}
use Rattle.cht_core.proofs.CauseTurns.{call_found}
use Rattle.cht_core.proofs.CauseWaits.{begin_on, poll_on, sweep_on}

-- events of others change nothing of it
pub caused_waits : (t : Table) (i : ℕ) (way : Way) (seen window more : List Event) (load : ℕ) (m : Machine) → whats_by i more ≡ [] → Caused t i way seen window load m →
    Caused t i way seen (window ++ more) load m
caused_waits t i way seen window more load (machine.Call c w g) none h = (owns_waits i window more c none h.0, call_on t i seen window more way load c.asked c.along c.stage h.1)
caused_waits t i way seen window more load (machine.Begin b) none h = (unseen_waits i window more none h.0, begin_on t i seen window more b.stage h.1)
caused_waits t i way seen window more load (machine.Poll p) none h = (unseen_waits i window more none h.0, poll_on t i seen window more load p.work p.answer none h.1)
caused_waits t i way seen window more load (machine.Sweep s) none h = (unseen_waits i window more none h.0, sweep_on t i seen window more s.stage h.1)

module _ (t : Table) (i : ℕ) (way : Way) (seen window : List Event) (load : ℕ) (f : Flow) where
  abbrev Now' : Past
  Now' = past_of t.shape.min_level (seen ++ window)

  -- a machine after a step, by what it wanted, by its event and by what came of it
  abbrev After : Plan → Option What → Machine → Type 0
  After p e m = Caused t i way seen (window ++ events_of i e) (loaded_at p Now'.now.place load) m

  by_parts : (m : Machine) (word : ℕ) → After (plan_part m) (event_of m word) (got_part m word) → After (plan_of m) (event_of m word) (got_of m word)
  by_parts m word h = subst (λ p. After p (event_of m word) (got_of m word)) (sym (plan_is m)) (subst (After (plan_part m) (event_of m word)) (sym (got_is m word)) h)

  part_steps : (m : Machine) (word : ℕ) → shape_of m ≡ t.shape → IsSoundMachine m → FitsMachine m word → IsTold t (seen ++ window) → IsTidy t (now_in t (seen ++ window)) →
      Caused t i way seen window load m →
      PlanSays t Now' f (plan_part m) word → Hears t Now' f i load (seen ++ window) m word → After (plan_part m) (event_of m word) (got_part m word)
  part_steps (machine.Call c w g) word shape sound fits told tidy h says hears =
      subst (λ e. After (plan_part (machine.Call c w g)) e (got_part (machine.Call c w g) word)) (sym (event_is (machine.Call c w g) word)) (
        owns_steps i window c word sound.0 (fits_part (machine.Call c w g) word fits) h.0,
        call_on t i seen window (events_of i (event_by c.asked.text (plan_part (machine.Call c w g)) word)) way (loaded_at (plan_part (machine.Call c w g)) Now'.now.place load) c.asked
            (next_at c.asked c.along c.stage word).0 (next_at c.asked c.along c.stage word).1
            (call_found t i way seen window f c.asked told tidy load c.along c.stage word shape h.0.shown sound.0.at.0 (fits_part (machine.Call c w g) word fits) h.1 says hears),
      )
  part_steps (machine.Begin b) word shape sound fits told tidy h says hears = (
    unseen_steps i window (machine.Begin b) word tt h.0,
    begin_on t i seen window (events_of i (event_of (machine.Begin b) word)) _
        (begin_found t i seen window f b.caller b.stage word shape h.1 says hears),
  )
  part_steps (machine.Poll p) word shape sound fits told tidy h says hears =
      subst (λ e. After (plan_part (machine.Poll p)) e (got_part (machine.Poll p) word)) (sym (event_is (machine.Poll p) word)) (
        subst (λ e. IsUnseen i (window ++ events_of i e)) (event_is (machine.Poll p) word) (unseen_steps i window (machine.Poll p) word tt h.0),
        poll_found t i seen window load f told h.0 p.caller p.work p.answer word shape sound.work h.1 says hears,
      )
  part_steps (machine.Sweep s) word shape sound fits told tidy h says hears = (
    unseen_steps i window (machine.Sweep s) word tt h.0,
    sweep_on t i seen window (events_of i (event_of (machine.Sweep s) word)) _ (sweep_found t i seen window f s.asked s.along s.stage word h.1 says),
  )

  -- the machine's own step, by the word that it finds
  pub caused_steps : (m : Machine) (word : ℕ) → shape_of m ≡ t.shape → IsSoundMachine m → FitsMachine m word → IsTold t (seen ++ window) → IsTidy t (now_in t (seen ++ window)) →
      Caused t i way seen window load m →
      PlanSays t Now' f (plan_of m) word → Hears t Now' f i load (seen ++ window) m word → After (plan_of m) (event_of m word) (got_of m word)
  caused_steps m word shape sound fits told tidy h says hears = by_parts m word (part_steps m word shape sound fits told tidy h (subst (λ p. PlanSays t Now' f p word) (plan_is m) says) hears)

-- THE ANSWER

begin_answered : (caller : Caller) (s : BeginStage) (a : Answer) → plan_part (machine.Begin (record { caller = caller; stage = s })) ≡ plan.Answered a → s ≡ begin.Answered a (left_of s)
begin_answered caller (begin.Answered b l) a is = let same : b ≡ a = cc in ap (λ x. begin.Answered x l) same
begin_answered caller (begin.LoadCounter w) a is = absurd (cc)
begin_answered caller (begin.TakeResizeLock w) a is = absurd (cc)
begin_answered caller (begin.LoadLevel d) a is = absurd (cc)
begin_answered caller (begin.GiveResizeLock b) a is = absurd (cc)
begin_answered caller (begin.Grace g s) a is = absurd (cc)

same_answer : (b a : Answer) → plan.Answered b ≡ plan.Answered a → b ≡ a
same_answer b a is = cc

poll_answered : (t : Table) (i : ℕ) (seen window : List Event) (load : ℕ) (caller : Caller) (w : Work) (o : Option Answer) (a : Answer) →
    plan_part (machine.Poll (record { caller = caller; work = w; answer = o })) ≡ plan.Answered a → PollCaused t i seen window load w o → PollEnds t i seen window w a
poll_answered t i seen window load caller (work.Clean c) (Some b) a is h = subst (WorkEnds t i seen window c.along.grace.raised) (same_answer b a is) h
poll_answered t i seen window load caller (work.Clean c) None a is h = absurd (cc)
poll_answered t i seen window load caller (work.Resize r) (Some b) a is h = subst (WorkEnds t i seen window r.along.grace.raised) (same_answer b a is) h
poll_answered t i seen window load caller (work.Resize r) None a is h = absurd (cc)

sweep_ends : (t : Table) (seen window : List Event) (a : Answer) → SweepCaused t seen window (sweep.Answered a) → SweepEnds t seen window a
sweep_ends t seen window (answer.Spent counter) h = h
sweep_ends t seen window _ h = tt

-- a call that has answered says why
pub cause_answered : (t : Table) (i : ℕ) (way : Way) (seen window : List Event) (load : ℕ) (m : Machine) (a : Answer) → IsSoundMachine m → plan_of m ≡ plan.Answered a →
    Caused t i way seen window load m →
    Cause t i way seen window m a
cause_answered t i way seen window load m a sound is h = part m sound (sym (plan_is m) ∙ is) h
  where
    part : (m : Machine) → IsSoundMachine m → plan_part m ≡ plan.Answered a → Caused t i way seen window load m → Cause t i way seen window m a
    part (machine.Call c w g) sound is h = (owns_answered i window c a sound.0 is h.0, subst (CallCaused t i way seen window load c.asked c.along) (answered_at c a is) h.1)
    part (machine.Begin b) sound is h = (h.0, subst (BeginCaused t i seen window) (begin_answered b.caller b.stage a is) h.1)
    part (machine.Poll p) sound is h = (h.0, poll_answered t i seen window load p.caller p.work p.answer a is h.1)
    part (machine.Sweep s) sound is h = (h.0, sweep_ends t seen window a (subst (SweepCaused t seen window) (swept s.stage is) h.1))
      where
        swept : (x : SweepStage) → plan_part (machine.Sweep (record s { stage = x })) ≡ plan.Answered a → x ≡ sweep.Answered a
        swept (sweep.Answered b) is = ap sweep.Answered (same_answer b a is)
        swept sweep.Check is = absurd (cc)
        swept (sweep.Find x) is = absurd (cc)
        swept sweep.Lock is = absurd (cc)
        swept (sweep.Close x) is = absurd (cc)
        swept (sweep.Pass x) is = absurd (cc)
        swept sweep.UnlockHead is = absurd (cc)
        swept (sweep.Grace x) is = absurd (cc)
        swept (sweep.Free x) is = absurd (cc)

-- THE BEGINNING

pub first_slot : (shape : Shape) → IsSound shape → IsHandle shape calls.no_handle
first_slot shape sound = let some = sound.slots in (omega (arith, some), omega arith)

module _ (t : Table) (i : ℕ) (seen : List Event) (load : ℕ) (caller : Caller) (own : Own) (shape : caller.shape ≡ t.shape) (sound : IsSoundCaller caller) where
  -- a look-up whose text is not too long, and each intern
  abbrev MayWalk : Goal → List ℕ → Type 0
  MayWalk goal.Lookup text = is_too_long t.shape text ≡ false
  MayWalk _ text = Unit {0}

  walk_caused : (why : Goal) (text : List ℕ) → MayWalk why text →
      CallCaused t i Walks seen [] load (calls.begun_walk caller why text).asked (calls.begun_walk caller why text).along (calls.begun_walk caller why text).stage
  walk_caused why text may =
      where_it_is (λ (c : Calling). CallCaused t i Walks seen [] load c.asked c.along c.stage) (is_too_long caller.shape text)
      (calls.begins caller why [] calls.no_handle (stage.Answered (calls.too_long why)))
      (calls.begins caller why text calls.no_handle (stage.Find (find.Enter LoadCounter))) (λ long. too_long why may long) (λ fits. refl)
    where
      too_long : (why : Goal) → MayWalk why text → is_too_long caller.shape text ≡ true →
          CallCaused t i Walks seen [] load (calls.begins caller why [] calls.no_handle (stage.Answered (calls.too_long why))).asked
          (calls.begins caller why [] calls.no_handle (stage.Answered (calls.too_long why))).along (stage.Answered (calls.too_long why))
      too_long goal.Lookup may long = absurd (let fits : is_too_long caller.shape text ≡ false = subst (λ x. is_too_long x text ≡ false) (sym shape) may in cc)
      too_long goal.Intern may long = tt
      too_long goal.InternWait may long = tt

  walk_begins : (why : Goal) (text : List ℕ) → MayWalk why text → Caused t i Walks seen [] load (machine.Call (calls.begun_walk caller why text) own.work own.grace)
  walk_begins why text may = ((owns_begins i caller why text change.Drop calls.no_handle sound (first_slot caller.shape sound.shape)).1, walk_caused why text may)

  change_begins : (way : Change) (h : Handle) → IsHandle caller.shape h → WasMade t seen h → Caused t i (Changes way) seen [] load (machine.Call (calls.begun_change caller way h) own.work own.grace)
  change_begins way h handle made = ((owns_begins i caller goal.Lookup [] way h sound handle).2, (refl, made))

  grace_begins : (g : Option Grace) → Caused t i Splits seen [] load (begun_grace_poll caller g)
  grace_begins None = (refl, tt)
  grace_begins (Some g) = (refl, tt)

  work_begins : (w : Option Work) → IfSome w (λ w. IsResting w × (owner_of (now_in t seen).resizing ≡ Some i)) → Caused t i Splits seen [] load (begun_work_poll caller w)
  work_begins None rests = (refl, tt)
  work_begins (Some w) rests = (refl, poll_begins t i seen load w rests.0 rests.1)

  starts_caused : (c : Call) → MayStart caller.kind caller.shape own c → MayCause t i seen own c → Caused t i (way_of c) seen [] load (starts caller own c)
  starts_caused call.Split may causes = ((owns_begins i caller goal.Lookup [] change.Drop calls.no_handle sound (first_slot caller.shape sound.shape)).0, refl)
  starts_caused (call.Intern text) may causes = walk_begins goal.Intern text.now tt
  starts_caused (call.Lookup text) may causes = walk_begins goal.Lookup text.now causes
  starts_caused (call.InternWait text) may causes = walk_begins goal.InternWait text.now tt
  starts_caused (call.TextOf h) may causes = ((owns_begins i caller goal.Lookup [] change.Drop h sound may.1).3, (refl, causes))
  starts_caused (call.Drop h) may causes = change_begins change.Drop h may.1 causes
  starts_caused (call.Permanent h) may causes = change_begins change.Permanent h may.1 causes
  starts_caused (call.Kill h) may causes = change_begins change.Kill h may.1 causes
  starts_caused call.BeginClean may causes = (refl, tt)
  starts_caused call.BeginGrow may causes = (refl, tt)
  starts_caused call.BeginShrink may causes = (refl, tt)
  starts_caused call.BeginGrace may causes = (refl, tt)
  starts_caused call.PollGrace may causes = grace_begins own.grace
  starts_caused call.PollWork may causes = work_begins own.work causes
  starts_caused (call.Sweep text) may causes = (refl, tt)

-- each call at its first stage has found out nothing yet
pub caused_begins : (t : Table) (i : ℕ) (seen : List Event) (load seed : ℕ) (own : Own) (c : Call) → IsSound t.shape → seed < 2 ^ 32 → IsSoundOwn t.shape own →
    MayStart t.kind t.shape own c → MayCause t i seen own c →
    Caused t i (way_of c) seen [] load (started t.kind t.shape seed own c)
caused_begins t i seen load seed own c shape small of may causes =
    starts_caused t i seen load (caller_of t.kind t.shape seed own) own refl (record { shape = shape; seed = small; number = of.0.0; cursor = of.0.1 }) c may causes
