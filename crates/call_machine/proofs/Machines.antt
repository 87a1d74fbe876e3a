-- The machine of any call begins sound, and stays so by each word that it may be told; what it leaves its seat is sound.
use Rattle.std.proofs.Common.{◌≡◌, ◌∙◌, ◌<◌, ◌^◌, ℕ, Option, Some, None, List, [], refl, sym, ap, subst}
use Rattle.std.specs.Prelude.{IfSome}
use native.Mathlib.Omega.{arith}
use Rattle.intern_log.specs.declared.event.Handle.{Handle}
use Rattle.intern_log.specs.declared.event.Kind.{Kind}
use Rattle.table_shape.specs.declared.shape.Shape.{Shape}
use Rattle.table_shape.specs.Shape.{IsSound}
use Rattle.text_words.specs.Hash.{hash_of}
use Rattle.atomic_step.specs.declared.answer.Answer.{Answer}
use Rattle.atomic_step.specs.declared.answer.Answer.TheVariants as answer
use Rattle.atomic_step.specs.declared.count.Change.{Change}
use Rattle.atomic_step.specs.declared.count.Change.TheVariants as change
use Rattle.atomic_step.specs.declared.plan.Plan.{Plan}
use Rattle.atomic_step.specs.declared.plan.Plan.TheVariants as plan
use Rattle.atomic_step.specs.declared.step.Step.{Step}
use Rattle.atomic_step.specs.SoundStep.{IsSoundStep, IsSoundPlan, CanBeFound, CanFollow}
use Rattle.atomic_step.specs.Turn as turn
use Rattle.atomic_step.specs.Turn.{Turn, Answered, Makes, map_turn, plan_in, next_in, event_by}
use Rattle.atomic_step.proofs.Choices.{either_way}
use Rattle.call_machine.specs.declared.begin.BeginStage.{BeginStage}
use Rattle.call_machine.specs.declared.begin.Left.{Left}
use Rattle.call_machine.specs.declared.begin.Left.TheVariants as left
use Rattle.call_machine.specs.declared.begin.Task.{Task}
use Rattle.call_machine.specs.declared.call.Call.{Call}
use Rattle.call_machine.specs.declared.call.Call.TheVariants as call
use Rattle.call_machine.specs.declared.caller.Caller.{Caller}
use Rattle.call_machine.specs.declared.clean.CleanAlong.{CleanAlong}
use Rattle.call_machine.specs.declared.clean.CleanStage.{CleanStage}
use Rattle.call_machine.specs.declared.clean.CleanStage.TheVariants as clean
use Rattle.call_machine.specs.declared.grace.Grace.{Grace}
use Rattle.call_machine.specs.declared.machine.Machine.{Machine}
use Rattle.call_machine.specs.declared.machine.Machine.TheVariants as machine
use Rattle.call_machine.specs.declared.machine.Own.{Own}
use Rattle.call_machine.specs.declared.poll.Polling.{Polling}
use Rattle.call_machine.specs.declared.stage.Along.{Along}
use Rattle.call_machine.specs.declared.stage.Calling.{Calling}
use Rattle.call_machine.specs.declared.stage.CallStage.{CallStage}
use Rattle.call_machine.specs.declared.stage.Goal.{Goal}
use Rattle.call_machine.specs.declared.stage.Goal.TheVariants as goal
use Rattle.call_machine.specs.declared.sweep.SweepAlong.{SweepAlong}
use Rattle.call_machine.specs.declared.sweep.SweepStage.{SweepStage}
use Rattle.call_machine.specs.declared.work.Work.{Work}
use Rattle.call_machine.specs.declared.work.Work.TheVariants as work
use Rattle.call_machine.specs.Begin.{begin_turn, begin_plan, begin_got, begins}
use Rattle.call_machine.specs.BeginCall.{begun_split, begun_walk, begun_change, begun_read, no_handle}
use Rattle.call_machine.specs.BeginCall as begun
use Rattle.call_machine.specs.Caller.{IsSoundCaller}
use Rattle.call_machine.specs.Calls.{turn_at, goes_to}
use Rattle.call_machine.specs.Calls as calls
use Rattle.call_machine.specs.Clean.{clean_row}
use Rattle.call_machine.specs.Machine.{caller_of, beside, begun_grace_poll, begun_work_poll, starts, started, shape_of, number_of, text_of, plan_of, want_of, got_of, event_of, grace_left, own_of, IsSameWork, IsSameMachine}
use Rattle.call_machine.specs.Poll.{poll_turn, state_of, polling, begun_poll, poll_plan, poll_got, work_left}
use Rattle.call_machine.specs.SoundBegin.{IsSoundLeft, IsSoundBegin}
use Rattle.call_machine.specs.SoundCall.{IsHandle, IsSoundCall}
use Rattle.call_machine.specs.SoundMachine.{IsGraceOf, IsSoundOwn, MayStart, IsSoundMachine, FitsMachine}
use Rattle.call_machine.specs.SoundPoll.{IsSoundPoll, FitsPoll}
use Rattle.call_machine.specs.Sought.{is_too_long}
use Rattle.call_machine.specs.Sweep as sweeps
use Rattle.call_machine.specs.Work.{work_row, resumes, begun_work, IsSoundWork}
use Rattle.call_machine.proofs.Beginnings.{stays}
use Rattle.call_machine.proofs.SoundCall as calls_sound
use Rattle.call_machine.proofs.SoundClean.{clean_law, begins_clean}
use Rattle.call_machine.proofs.SoundResize.{got_soundly, begins_soundly}
use Rattle.call_machine.proofs.SoundSweep.{sweep_law, begins_sweep}
use Rattle.call_machine.proofs.WholeCall.{begins_law}

-- a work goes on, and a new poll of it begins
pub work_soundly : (shape : Shape) (w : Work) (word : ℕ) → word < 2 ^ 64 → IsSound shape → IsSoundWork shape w → CanBeFound shape (work_row shape w).step word → IsSoundWork shape ((work_row shape w).next word).0
work_soundly shape (work.Clean c) word small table sound fits = clean_law shape c.along c.stage word small table sound fits
work_soundly shape (work.Resize r) word small table sound fits = got_soundly shape r.direction r.along r.stage word table sound fits

anew : (shape : Shape) (w : CleanAlong) (s : CleanStage) (seat : ℕ) → IsSoundStep shape seat (clean_row shape w s).step → IsSoundStep shape seat (clean_row shape (record w { full_passes = 0 }) s).step
anew shape w clean.LoadLevel seat is = is
anew shape w _ seat is = is

resumes_soundly : (shape : Shape) (w : Work) → IsSoundWork shape w → IsSoundWork shape (resumes w).0
resumes_soundly shape (work.Clean c) sound = record { cleaning = sound.cleaning; at = sound.at; step = λ seat. anew shape c.along c.stage seat (sound.step seat) }
resumes_soundly shape (work.Resize r) sound = sound

pub begun_poll_soundly : (caller : Caller) (w : Work) → IsSoundCaller caller → IsSoundWork caller.shape w → IsSoundPoll (begun_poll caller w)
begun_poll_soundly caller w sound has = record { caller = sound; work = resumes_soundly caller.shape w has }

poll_at : (caller : Caller) (w : Work) (a : Option Answer) (word : ℕ) → word < 2 ^ 64 → IsSoundCaller caller → IsSoundWork caller.shape w → FitsPoll (polling caller (w, a)) word → IsSoundPoll (poll_got (polling caller (w, a)) word)
poll_at caller w None word small sound has fits = record { caller = sound; work = work_soundly caller.shape w word small sound.shape has fits }
poll_at caller w (Some a) word small sound has fits = absurd fits

pub fits_work : (caller : Caller) (w : Work) (a : Option Answer) (word : ℕ) → FitsPoll (polling caller (w, a)) word → CanBeFound caller.shape (work_row caller.shape w).step word
fits_work caller w None word fits = fits
fits_work caller w (Some a) word fits = absurd fits

pub poll_law : (p : Polling) (word : ℕ) → word < 2 ^ 64 → IsSoundPoll p → FitsPoll p word → IsSoundPoll (poll_got p word)
poll_law p word small sound fits = poll_at p.caller p.work p.answer word small sound.caller sound.work fits

pub poll_plan_at : (caller : Caller) (w : Work) (a : Option Answer) → IsSoundWork caller.shape w → IsSoundPlan caller.shape caller.number (poll_plan (polling caller (w, a)))
poll_plan_at caller w (Some a) has = tt
poll_plan_at caller (work.Clean c) None has = has.step caller.number
poll_plan_at caller (work.Resize r) None has = has.step caller.number

pub poll_plan_law : (p : Polling) → IsSoundPoll p → IsSoundPlan p.caller.shape p.caller.number (poll_plan p)
poll_plan_law p sound = poll_plan_at p.caller p.work p.answer sound.work

-- a machine does what its part does
maps_plan : {S T : Type 0} (f : S → T) (t : Turn S) → plan_in (map_turn f t) ≡ plan_in t
maps_plan f (Answered a) = refl
maps_plan f (Makes does) = refl

maps_next : {S T : Type 0} (f : S → T) (s : S) (t : Turn S) (word : ℕ) → next_in (f s) (map_turn f t) word ≡ f (next_in s t word)
maps_next f s (Answered a) word = refl
maps_next f s (Makes does) word = refl

abbrev pub plan_part : Machine → Plan
plan_part (machine.Call c w g) = calls.plan_of c
plan_part (machine.Begin b) = begin_plan b
plan_part (machine.Poll p) = poll_plan p
plan_part (machine.Sweep s) = sweeps.sweep_plan s

abbrev pub got_part : Machine → ℕ → Machine
got_part (machine.Call c w g) word = machine.Call (calls.got_of c word) w g
got_part (machine.Begin b) word = machine.Begin (begin_got b word)
got_part (machine.Poll p) word = machine.Poll (poll_got p word)
got_part (machine.Sweep s) word = machine.Sweep (sweeps.sweep_got s word)

pub plan_is : (m : Machine) → plan_of m ≡ plan_part m
plan_is (machine.Call c w g) = maps_plan (λ (at : Along × CallStage). machine.Call (goes_to c.asked at) w g) (turn_at c.asked c.along c.stage)
plan_is (machine.Begin b) = maps_plan (λ (s : BeginStage). machine.Begin (record b { stage = s })) (begin_turn b.caller b.stage)
plan_is (machine.Poll p) = maps_plan (λ (at : Work × Option Answer). machine.Poll (polling p.caller at)) (poll_turn p.caller (state_of p))
plan_is (machine.Sweep s) = maps_plan (λ (at : SweepAlong × SweepStage). machine.Sweep (sweeps.goes_to s.asked at)) (sweeps.sweep_turn s.asked s.along s.stage)

pub got_is : (m : Machine) (word : ℕ) → got_of m word ≡ got_part m word
got_is (machine.Call c w g) word = maps_next (λ (at : Along × CallStage). machine.Call (goes_to c.asked at) w g) (c.along, c.stage) (turn_at c.asked c.along c.stage) word
got_is (machine.Begin b) word = maps_next (λ (s : BeginStage). machine.Begin (record b { stage = s })) b.stage (begin_turn b.caller b.stage) word
got_is (machine.Poll p) word = maps_next (λ (at : Work × Option Answer). machine.Poll (polling p.caller at)) (state_of p) (poll_turn p.caller (state_of p)) word
got_is (machine.Sweep s) word = maps_next (λ (at : SweepAlong × SweepStage). machine.Sweep (sweeps.goes_to s.asked at)) (s.along, s.stage) (sweeps.sweep_turn s.asked s.along s.stage) word

pub fits_part : (m : Machine) (word : ℕ) → FitsMachine m word → CanFollow (shape_of m) (plan_part m) word
fits_part m word fits = subst (λ p. CanFollow (shape_of m) p word) (plan_is m) fits

pub event_is : (m : Machine) (word : ℕ) → event_of m word ≡ event_by (text_of m) (plan_part m) word
event_is m word = ap (λ p. event_by (text_of m) p word) (plan_is m)

pub want_is : (m : Machine) → want_of m ≡ turn.want_of (shape_of m) (plan_part m)
want_is m = ap (turn.want_of (shape_of m)) (plan_is m)

-- each step of a sound machine is sound, and it stays so
plan_soundly : (m : Machine) → IsSoundMachine m → IsSoundPlan (shape_of m) (number_of m) (plan_part m)
plan_soundly (machine.Call c w g) sound = sound.0.at.0
plan_soundly (machine.Begin b) sound = sound.plan
plan_soundly (machine.Poll p) sound = poll_plan_law p sound
plan_soundly (machine.Sweep s) sound = sound.plan

pub step_law : (m : Machine) (s : Step) → IsSoundMachine m → plan_of m ≡ plan.Step s → IsSoundStep (shape_of m) (number_of m) s
step_law m s sound is = subst (IsSoundPlan (shape_of m) (number_of m)) is (subst (IsSoundPlan (shape_of m) (number_of m)) (sym (plan_is m)) (plan_soundly m sound))

part_soundly : (m : Machine) (word : ℕ) → word < 2 ^ 64 → IsSoundMachine m → CanFollow (shape_of m) (plan_part m) word → IsSoundMachine (got_part m word)
part_soundly (machine.Call c w g) word small sound fits = (calls_sound.sound_law c word small sound.0 fits, sound.1, sound.2)
part_soundly (machine.Begin b) word small sound fits = stays b.caller b.stage word sound fits
part_soundly (machine.Poll p) word small sound fits = poll_law p word small sound fits
part_soundly (machine.Sweep s) word small sound fits = sweep_law s word small sound fits

pub got_law : (m : Machine) (word : ℕ) → word < 2 ^ 64 → IsSoundMachine m → FitsMachine m word → IsSoundMachine (got_of m word)
got_law m word small sound fits = subst IsSoundMachine (sym (got_is m word)) (part_soundly m word small sound (fits_part m word fits))

-- what it leaves its seat is sound
begun_soundly : (shape : Shape) (l : Left) → IsSound shape → IsSoundLeft shape l → IfSome (begun_work shape l) (IsSoundWork shape) × IsGraceOf shape (grace_left l)
begun_soundly shape left.Nothing sound at = (tt, tt)
begun_soundly shape left.Clean sound at = let levels = sound.levels.0 in (begins_clean shape shape.min_level (omega arith, levels), tt)
begun_soundly shape (left.Resize d level) sound at = (begins_soundly shape d level at, tt)
begun_soundly shape (left.Grace g) sound at = (tt, at)

left_soundly : (shape : Shape) (w : Work) (a : Option Answer) → IsSoundWork shape w → IfSome (work_left w a) (IsSoundWork shape)
left_soundly shape w (Some (answer.Done did)) sound = tt
left_soundly shape w _ sound = sound

pub left_law : (m : Machine) → IsSoundMachine m → IsSoundOwn (shape_of m) (own_of m)
left_law (machine.Call c w g) sound = ((sound.0.asked.number, sound.0.along.0, sound.2), sound.1)
left_law (machine.Begin b) sound = let at = begun_soundly b.caller.shape _ sound.caller.shape sound.left in ((sound.caller.number, sound.caller.cursor, at.1), at.0)
left_law (machine.Poll p) sound = ((sound.caller.number, sound.caller.cursor, tt), left_soundly p.caller.shape p.work p.answer sound.work)
left_law (machine.Sweep s) sound = ((sound.caller.number, sound.caller.cursor, tt), tt)

-- how each call begins
beside_soundly : (caller : Caller) (own : Own) (c : Calling) → c.asked.shape ≡ caller.shape → IsSoundCall c → IsSoundOwn caller.shape own → IsSoundMachine (beside own c)
beside_soundly caller own c same sound of = (sound, subst (λ shape. IfSome own.work (IsSoundWork shape)) (sym same) of.1, subst (λ shape. IsGraceOf shape own.grace) (sym same) of.0.2)

walk_shape : (caller : Caller) (goal : Goal) (text : List ℕ) → (begun_walk caller goal text).asked.shape ≡ caller.shape
walk_shape caller goal text = either_way (λ (c : Calling). c.asked.shape ≡ caller.shape) (is_too_long caller.shape text) (begun.begins caller goal [] no_handle _) (begun.begins caller goal text no_handle _) refl refl

first_slot : (shape : Shape) → IsSound shape → IsHandle shape no_handle
first_slot shape sound = let some = sound.slots in (omega (arith, some), omega arith)

walks : (caller : Caller) (own : Own) (goal : Goal) (text : List ℕ) → IsSoundCaller caller → IsSoundOwn caller.shape own → IsSoundMachine (beside own (begun_walk caller goal text))
walks caller own goal text sound of = beside_soundly caller own _ (walk_shape caller goal text) (begins_law caller goal text change.Drop no_handle sound (first_slot caller.shape sound.shape)).1 of

changes : (caller : Caller) (own : Own) (way : Change) (h : Handle) → IsSoundCaller caller → IsSoundOwn caller.shape own → IsHandle caller.shape h → IsSoundMachine (beside own (begun_change caller way h))
changes caller own way h sound of handle = beside_soundly caller own _ refl (begins_law caller goal.Lookup [] way h sound handle).2 of

begins_work : (caller : Caller) (t : Option Task) → IsSoundCaller caller → IsSoundBegin (begins caller t)
begins_work caller t sound = record { caller = sound; plan = (tt, tt, tt, tt); left = tt }

polls_grace : (caller : Caller) (g : Option Grace) → IsSoundCaller caller → IsGraceOf caller.shape g → IsSoundMachine (begun_grace_poll caller g)
polls_grace caller (Some g) sound at = record { caller = sound; plan = (at, tt, tt, tt); left = tt }
polls_grace caller None sound at = record { caller = sound; plan = tt; left = tt }

polls_work : (caller : Caller) (w : Option Work) → IsSoundCaller caller → IfSome w (IsSoundWork caller.shape) → IsSoundMachine (begun_work_poll caller w)
polls_work caller (Some w) sound at = begun_poll_soundly caller w sound at
polls_work caller None sound at = record { caller = sound; plan = tt; left = tt }

starts_soundly : (caller : Caller) (own : Own) (c : Call) → IsSoundCaller caller → IsSoundOwn caller.shape own → MayStart caller.kind caller.shape own c → IsSoundMachine (starts caller own c)
starts_soundly caller own call.Split sound of may = beside_soundly caller own _ refl (begins_law caller goal.Lookup [] change.Drop no_handle sound (first_slot caller.shape sound.shape)).0 of
starts_soundly caller own (call.Intern text) sound of may = walks caller own goal.Intern text.now sound of
starts_soundly caller own (call.Lookup text) sound of may = walks caller own goal.Lookup text.now sound of
starts_soundly caller own (call.InternWait text) sound of may = walks caller own goal.InternWait text.now sound of
starts_soundly caller own (call.TextOf h) sound of may = beside_soundly caller own _ refl (begins_law caller goal.Lookup [] change.Drop h sound may.1).3 of
starts_soundly caller own (call.Drop h) sound of may = changes caller own change.Drop h sound of may.1
starts_soundly caller own (call.Permanent h) sound of may = changes caller own change.Permanent h sound of may.1
starts_soundly caller own (call.Kill h) sound of may = changes caller own change.Kill h sound of may.1
starts_soundly caller own call.BeginClean sound of may = begins_work caller _ sound
starts_soundly caller own call.BeginGrow sound of may = begins_work caller _ sound
starts_soundly caller own call.BeginShrink sound of may = begins_work caller _ sound
starts_soundly caller own call.BeginGrace sound of may = begins_work caller _ sound
starts_soundly caller own call.PollGrace sound of may = polls_grace caller own.grace sound of.0.2
starts_soundly caller own call.PollWork sound of may = polls_work caller own.work sound of.1
starts_soundly caller own (call.Sweep text) sound of may = begins_sweep caller (hash_of caller.seed text.now) sound

pub start_law : (kind : Kind) (shape : Shape) (seed : ℕ) (own : Own) (c : Call) → IsSound shape → seed < 2 ^ 32 → IsSoundOwn shape own → MayStart kind shape own c → IsSoundMachine (started kind shape seed own c)
start_law kind shape seed own c table small of may =
    starts_soundly (caller_of kind shape seed own) own c (record { shape = table; seed = small; number = of.0.0; cursor = of.0.1 }) of may

-- a step leaves whose machine it is
same_at : (caller : Caller) (w : Work) (a : Option Answer) (word : ℕ) → IsSameWork w (poll_got (polling caller (w, a)) word).work
same_at caller (work.Clean c) (Some a) word = tt
same_at caller (work.Resize r) (Some a) word = refl
same_at caller (work.Clean c) None word = tt
same_at caller (work.Resize r) None word = refl

same_part : (m : Machine) (word : ℕ) → IsSameMachine m (got_part m word)
same_part (machine.Call c w g) word = (refl, refl, refl)
same_part (machine.Begin b) word = refl
same_part (machine.Poll p) word = (refl, same_at p.caller p.work p.answer word)
same_part (machine.Sweep s) word = refl

pub same_law : (m : Machine) (word : ℕ) → IsSameMachine m (got_of m word)
same_law m word = subst (IsSameMachine m) (sym (got_is m word)) (same_part m word)

pub shape_law : (m : Machine) (word : ℕ) → shape_of (got_of m word) ≡ shape_of m
shape_law m word = ap shape_of (got_is m word) ∙ shape_part m word
  where
    shape_part : (m : Machine) (word : ℕ) → shape_of (got_part m word) ≡ shape_of m
    shape_part (machine.Call c w g) word = refl
    shape_part (machine.Begin b) word = refl
    shape_part (machine.Poll p) word = refl
    shape_part (machine.Sweep s) word = refl
