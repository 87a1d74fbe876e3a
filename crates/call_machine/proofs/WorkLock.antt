-- A seat has the resize lock exactly while it has an unfinished work.
use Rattle.std.proofs.Common.{◌≡◌, ◌∙◌, ⊎_elim, ℕ, Bool, true, false, List, [], Option, Some, None, refl, sym, ap, rules}
use Rattle.std.specs.Prelude.{is_some, IfSome}
use Rattle.intern_log.specs.declared.event.Kind.{Kind}
use Rattle.intern_log.specs.declared.event.What.{What}
use Rattle.table_shape.specs.declared.shape.Shape.{Shape}
use Rattle.atomic_step.specs.declared.answer.Answer.{Answer}
use Rattle.atomic_step.specs.declared.answer.Answer.TheVariants as answer
use Rattle.atomic_step.specs.declared.plan.Plan.TheVariants as plan
use Rattle.atomic_step.specs.declared.step.Step.{Step}
use Rattle.atomic_step.specs.declared.step.Step.TheVariants as step
use Rattle.atomic_step.specs.Event.{event_of}
use Rattle.atomic_step.specs.Monitor.{after_one, after_all, resize}
use Rattle.atomic_step.specs.Run.{AreFitting, after_words, events_of_words}
use Rattle.atomic_step.specs.Turn.{event_by}
use Rattle.atomic_step.proofs.Runs.{follows}
use Rattle.call_machine.specs.declared.begin.BeginStage.{BeginStage}
use Rattle.call_machine.specs.declared.begin.BeginStage.TheVariants as begin
use Rattle.call_machine.specs.declared.begin.Left.{Left}
use Rattle.call_machine.specs.declared.begin.Left.TheVariants as left
use Rattle.call_machine.specs.declared.call.Call.{Call}
use Rattle.call_machine.specs.declared.call.Call.TheVariants as call
use Rattle.call_machine.specs.declared.caller.Caller.{Caller}
use Rattle.call_machine.specs.declared.clean.CleanAlong.{CleanAlong}
use Rattle.call_machine.specs.declared.clean.CleanStage.{CleanStage}
use Rattle.call_machine.specs.declared.clean.CleanStage.TheVariants as clean
use Rattle.call_machine.specs.declared.clean.Freeing.{Freeing}
use Rattle.call_machine.specs.declared.grace.Grace.{Grace}
use Rattle.call_machine.specs.declared.grace.Gracing.{Gracing}
use Rattle.call_machine.specs.declared.lock.Locking.{Locking}
use Rattle.call_machine.specs.declared.machine.Machine.{Machine}
use Rattle.call_machine.specs.declared.machine.Machine.TheVariants as machine
use Rattle.call_machine.specs.declared.machine.Own.{Own}
use Rattle.call_machine.specs.declared.pass.FreeStage.{FreeStage}
use Rattle.call_machine.specs.declared.resize.Direction.{Direction}
use Rattle.call_machine.specs.declared.resize.AfterGrace.{AfterGrace}
use Rattle.call_machine.specs.declared.resize.JoinStage.TheVariants as join
use Rattle.call_machine.specs.declared.resize.ResizeAlong.{ResizeAlong}
use Rattle.call_machine.specs.declared.resize.ResizeStage.{ResizeStage}
use Rattle.call_machine.specs.declared.resize.ResizeStage.TheVariants as resized
use Rattle.call_machine.specs.declared.resize.Side.{Side}
use Rattle.call_machine.specs.declared.resize.UnzipStage.TheVariants as unzip
use Rattle.call_machine.specs.declared.sweep.SweepAlong.{SweepAlong}
use Rattle.call_machine.specs.declared.sweep.SweepAsked.{SweepAsked}
use Rattle.call_machine.specs.declared.sweep.SweepStage.{SweepStage}
use Rattle.call_machine.specs.declared.sweep.SweepStage.TheVariants as sweep
use Rattle.call_machine.specs.declared.work.Work.{Work}
use Rattle.call_machine.specs.declared.work.Work.TheVariants as work
use Rattle.call_machine.specs.Begin.{begin_plan, is_work, left_of}
use Rattle.call_machine.specs.CallEvents.{IsOfCall}
use Rattle.call_machine.specs.Clean as cleans
use Rattle.call_machine.specs.Clean.{clean_row}
use Rattle.call_machine.specs.Machine.{caller_of, begun_grace_poll, begun_work_poll, starts, started, plan_of, got_of, event_of as event_in, own_of}
use Rattle.call_machine.specs.Poll.{polling, work_left}
use Rattle.call_machine.specs.Grace.{held_back}
use Rattle.call_machine.specs.Resize as resizes
use Rattle.call_machine.specs.Resize.{resize_row}
use Rattle.call_machine.specs.SoundBegin.{FitsBegin}
use Rattle.call_machine.specs.SoundMachine.{IsAllowed, MayStart, FitsMachine}
use Rattle.call_machine.specs.SoundPoll.{FitsPoll}
use Rattle.call_machine.specs.Sweep as sweeps
use Rattle.call_machine.specs.WholeMachine.{machines, has_lock_at, has_lock, IsSingle}
use Rattle.call_machine.specs.Work.{resumes, begun_work}
use Rattle.call_machine.proofs.CallEvents.{no_work_law}
use Rattle.call_machine.proofs.Machines.{plan_part, plan_is, event_is, got_part, got_is, fits_part}
use Rattle.call_machine.proofs.Quiet.{IsAway, away, lock_quiet, pass_quiet, free_quiet, grace_quiet, find_quiet}

-- a poll that has not answered, or is pending, leaves its work
abbrev goes_on : Option Answer → Bool
goes_on (Some (answer.Done did)) = false
goes_on _ = true

left_by : (w : Work) (a : Option Answer) → is_some (work_left w a) ≡ goes_on a
left_by w (Some (answer.Done did)) = refl
left_by w _ = refl

-- a clean answers Done where it gives the lock back alone
abbrev StepOf : Step → Option Answer → ℕ → Type 0
StepOf s a word = after_one resize true (event_of [] s word) ≡ Some (goes_on a)

stays_on : (s : Step) (a : Option Answer) (word : ℕ) → IsAway s → goes_on a ≡ true → StepOf s a word
stays_on s a word is on = away [] s word true is ∙ ap Some (sym on)

clean_locks : (w : CleanAlong) (came : Locking) → goes_on (cleans.locks_on w came).2 ≡ true
clean_locks w came = search rules

clean_next : (w : CleanAlong) → goes_on (cleans.next_bucket w).2 ≡ true
clean_next w = search rules

clean_graces : (w : CleanAlong) (freeing : Freeing) (came : Gracing) → goes_on (cleans.graces_on w freeing came).2 ≡ true
clean_graces w freeing came = search rules

clean_frees : (shape : Shape) (w : CleanAlong) (freeing : Freeing) (next : Option FreeStage) → goes_on (cleans.frees_on shape w freeing next).2 ≡ true
clean_frees shape w freeing next = search rules

clean_step : (shape : Shape) (w : CleanAlong) (s : CleanStage) (word : ℕ) → StepOf (clean_row shape w s).step ((clean_row shape w s).next word).2 word
clean_step shape w clean.LoadLevel word = refl
clean_step shape w (clean.Lock s) word = stays_on _ _ word (lock_quiet w.cleaning.row w.cleaning.bucket s).1 (clean_locks w _)
clean_step shape w (clean.Pass s) word = stays_on _ (((clean_row shape w (clean.Pass s)).next word).2) word (pass_quiet w.cleaning s).1 refl
clean_step shape w clean.UnlockHead word = ap Some (sym (clean_next w))
clean_step shape w (clean.Grace freeing s) word = stays_on _ _ word (grace_quiet shape.seats w.grace s).1 (clean_graces _ freeing _)
clean_step shape w (clean.Free freeing s) word = stays_on _ _ word (free_quiet w.cleaning s).1 (clean_frees shape _ freeing _)
clean_step shape w clean.GiveResizeLock word = refl

-- so does a resize, which has the lock where it stores the level
resize_locks : (d : Direction) (w : ResizeAlong) (side : Side) (came : Locking) → goes_on (resizes.locks_on d w side came).2 ≡ true
resize_locks d w side came = search rules

held : (raised : ℕ) → goes_on (held_back raised) ≡ true
held raised = search rules

redirected : (d : Direction) (w : ResizeAlong) (side : Side) → goes_on (resizes.redirected d w side).2 ≡ true
redirected d w side = search rules

unlocked : (d : Direction) (w : ResizeAlong) (side : Side) → goes_on (resizes.unlocked d w side).2 ≡ true
unlocked d w side = search rules

resize_graces : (w : ResizeAlong) (after : AfterGrace) (came : Gracing) → goes_on (resizes.graces_on w after came).2 ≡ true
resize_graces w after came = search rules

resize_step : (shape : Shape) (d : Direction) (w : ResizeAlong) (s : ResizeStage) (word : ℕ) → StepOf (resize_row shape d w s).step ((resize_row shape d w s).next word).2 word
resize_step shape d w (resized.Lock side s) word = stays_on _ _ word (lock_quiet w.level _ s).1 (resize_locks d w side _)
resize_step shape d w (resized.RedirectHead side) word = ap Some (sym (redirected d w side))
resize_step shape d w (resized.Unzip (unzip.LoadMeta x)) word = refl
resize_step shape d w (resized.Unzip (unzip.LoadLink x side)) word = refl
resize_step shape d w (resized.Unzip (unzip.MoveEdge x side next)) word = ap Some (sym (held w.grace.raised))
resize_step shape d w (resized.Join (join.LoadLink x)) word = refl
resize_step shape d w (resized.Join (join.JoinChains x)) word = refl
resize_step shape d w (resized.UnlockHead side) word = ap Some (sym (unlocked d w side))
resize_step shape d w (resized.Grace after s) word = stays_on _ _ word (grace_quiet shape.seats w.grace s).1 (resize_graces _ after _)
resize_step shape d w resized.StoreLevel word = ap Some (sym (held w.grace.raised))
resize_step shape d w _ word = refl

-- each machine
abbrev Follows : Machine → ℕ → Type 0
Follows m word = after_one resize (has_lock m) (event_by [] (plan_part m) word) ≡ Some (has_lock (got_part m word))

poll_step : (caller : Caller) (w : Work) (a : Option Answer) (word : ℕ) → FitsPoll (polling caller (w, a)) word → Follows (machine.Poll (polling caller (w, a))) word
poll_step caller w (Some a) word fits = absurd fits
poll_step caller (work.Clean c) None word fits = clean_step caller.shape c.along c.stage word ∙ ap Some (sym (left_by _ _))
poll_step caller (work.Resize r) None word fits = resize_step caller.shape r.direction r.along r.stage word ∙ ap Some (sym (left_by _ _))

begin_step : (caller : Caller) (s : BeginStage) (word : ℕ) → FitsBegin (record { caller = caller; stage = s }) word → Follows (machine.Begin (record { caller = caller; stage = s })) word
begin_step caller s word fits = search rules

sweep_step : (q : SweepAsked) (w : SweepAlong) (s : SweepStage) (word : ℕ) → after_one resize false (event_by [] (sweeps.plan_at q w s) word) ≡ Some false
sweep_step q w (sweep.Find s) word = away [] _ word false (find_quiet q.caller.number q.hash w.walk s).1
sweep_step q w sweep.Lock word = away [] (step.LockHead w.walk.row w.walk.bucket w.walk.head) word false tt
sweep_step q w (sweep.Pass s) word = away [] _ word false (pass_quiet w.cleaning s).1
sweep_step q w (sweep.Grace s) word = away [] _ word false (grace_quiet q.caller.shape.seats w.grace s).1
sweep_step q w (sweep.Free s) word = away [] _ word false (free_quiet w.cleaning s).1
sweep_step q w _ word = refl

call_event : (e : Option What) (has : Bool) → IfSome e IsOfCall → after_one resize has e ≡ Some has
call_event e has is = search rules

step_by : (m : Machine) (word : ℕ) → FitsMachine m word → after_one resize (has_lock m) (event_in m word) ≡ Some (has_lock (got_part m word))
step_by (machine.Call c w g) word fits = ap (after_one resize (is_some w)) (event_is (machine.Call c w g) word) ∙ call_event _ (is_some w) (no_work_law c word)
step_by (machine.Begin b) word fits = ap (after_one resize (has_lock_at b.stage)) (event_is (machine.Begin b) word) ∙ begin_step b.caller b.stage word (fits_part (machine.Begin b) word fits)
step_by (machine.Poll p) word fits = ap (after_one resize (has_lock (machine.Poll p))) (event_is (machine.Poll p) word) ∙ poll_step p.caller p.work p.answer word (fits_part (machine.Poll p) word fits)
step_by (machine.Sweep s) word fits = ap (after_one resize false) (event_is (machine.Sweep s) word) ∙ sweep_step s.asked s.along s.stage word

pub lock_law : (m : Machine) (word : ℕ) → FitsMachine m word → after_one resize (has_lock m) (event_in m word) ≡ Some (has_lock (got_of m word))
lock_law m word fits = step_by m word fits ∙ ap (λ (n : Machine). Some (has_lock n)) (sym (got_is m word))

-- over a whole run
pub runs_law : (m : Machine) (words : List ℕ) → AreFitting machines m words → after_all resize (Some (has_lock m)) (events_of_words machines m words) ≡ Some (has_lock (after_words machines m words))
runs_law m words fits = follows machines resize has_lock (λ m. Unit {0}) (λ m word so fits. tt) (λ m word so fits. lock_law m word fits.1) m words tt fits

-- at the beginning of a call
resumed : (w : Work) → goes_on (resumes w).1 ≡ true
resumed (work.Clean c) = held c.along c.stage
  where
    held : (w : CleanAlong) (s : CleanStage) → goes_on (cleans.resumed w s) ≡ true
    held w s = search rules
resumed (work.Resize r) = held r.along r.stage
  where
    held : (w : ResizeAlong) (s : ResizeStage) → goes_on (resizes.resumed w s) ≡ true
    held w s = search rules

work_poll : (caller : Caller) (w : Option Work) → has_lock (begun_work_poll caller w) ≡ is_some w
work_poll caller (Some w) = left_by _ (resumes w).1 ∙ resumed w
work_poll caller None = refl

grace_poll : (caller : Caller) (g : Option Grace) → has_lock (begun_grace_poll caller g) ≡ false
grace_poll caller (Some g) = refl
grace_poll caller None = refl

starts_with : (caller : Caller) (own : Own) (c : Call) → IsSingle own → IsAllowed caller.kind (is_some own.work) (is_some own.grace) c → has_lock (starts caller own c) ≡ is_some own.work
starts_with caller own call.BeginClean single idle = sym idle.0
starts_with caller own call.BeginGrow single idle = sym idle.0
starts_with caller own call.BeginShrink single idle = sym idle.0
starts_with caller own call.BeginGrace single idle = sym idle.0
starts_with caller own (call.Sweep text) single idle = sym idle.0
starts_with caller own call.PollGrace single some = grace_poll caller own.grace ∙ sym (⊎_elim (λ none. none) (λ none. absurd (cc)) single)
starts_with caller own call.PollWork single some = work_poll caller own.work
starts_with caller own _ single may = refl

pub begin_law : (kind : Kind) (shape : Shape) (seed : ℕ) (own : Own) (c : Call) → IsSingle own → MayStart kind shape own c → has_lock (started kind shape seed own c) ≡ is_some own.work
begin_law kind shape seed own c single may = starts_with (caller_of kind shape seed own) own c single may.2

-- and once it has answered
left_work : (shape : Shape) (l : Left) → is_work l ≡ is_some (begun_work shape l)
left_work shape left.Nothing = refl
left_work shape left.Clean = refl
left_work shape (left.Resize d level) = refl
left_work shape (left.Grace g) = refl

begin_ends : (caller : Caller) (s : BeginStage) (a : Answer) → begin_plan (record { caller = caller; stage = s }) ≡ plan.Answered a → has_lock_at s ≡ is_some (begun_work caller.shape (left_of s))
begin_ends caller (begin.Answered b l) a is = left_work caller.shape l
begin_ends caller (begin.LoadLevel d) a is = absurd (cc)
begin_ends caller (begin.GiveResizeLock b) a is = absurd (cc)
begin_ends caller _ a is = refl

pub end_law : (m : Machine) (a : Answer) → plan_of m ≡ plan.Answered a → has_lock m ≡ is_some (own_of m).work
end_law (machine.Call c w g) a is = refl
end_law (machine.Begin b) a is = begin_ends b.caller b.stage a (sym (plan_is (machine.Begin b)) ∙ is)
end_law (machine.Poll p) a is = refl
end_law (machine.Sweep s) a is = refl
