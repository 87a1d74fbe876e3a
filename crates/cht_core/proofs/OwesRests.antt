-- What the log says that a seat has, it is at: so it is of a new seat, as a call begins, and once it has answered.
use Rattle.std.specs.Option.{option_to_list}
use Rattle.std.proofs.Common.{inr, ◌≡◌, ℕ, ◌^◌, false, [], Option, Some, None, refl, sym, subst, ◌∙◌, ⊎_elim}
use Rattle.std.specs.Prelude.{nat_le, is_some}
use Rattle.text_words.specs.Hash.{hash_of}
use Rattle.table_shape.specs.declared.shape.Shape.{Shape}
use Rattle.intern_log.specs.declared.event.Kind.{Kind}
use Rattle.atomic_step.specs.declared.answer.Answer.{Answer}
use Rattle.atomic_step.specs.declared.answer.Answer.TheVariants as answer
use Rattle.atomic_step.specs.declared.plan.Plan.TheVariants as plan
use Rattle.atomic_step.proofs.Choices.{either_way}
use Rattle.call_machine.specs.declared.begin.Beginning.{Beginning}
use Rattle.call_machine.specs.declared.begin.Left.{Left}
use Rattle.call_machine.specs.declared.begin.Left.TheVariants as left
use Rattle.call_machine.specs.declared.call.Call.{Call}
use Rattle.call_machine.specs.declared.call.Call.TheVariants as call
use Rattle.call_machine.specs.declared.caller.Caller.{Caller}
use Rattle.call_machine.specs.declared.clean.CleanAlong.{CleanAlong}
use Rattle.call_machine.specs.declared.clean.CleanStage.{CleanStage}
use Rattle.call_machine.specs.declared.clean.CleanStage.TheVariants as clean
use Rattle.call_machine.specs.declared.grace.Grace.{Grace}
use Rattle.call_machine.specs.declared.grace.GraceStage.TheVariants.{RaiseCounter, LoadSection}
use Rattle.call_machine.specs.declared.machine.Machine.{Machine}
use Rattle.call_machine.specs.declared.machine.Machine.TheVariants as machine
use Rattle.call_machine.specs.declared.machine.Own.{Own}
use Rattle.call_machine.specs.declared.stage.Calling.{Calling}
use Rattle.call_machine.specs.declared.resize.Direction.TheVariants.{Grow, Shrink}
use Rattle.call_machine.specs.declared.resize.ResizeAlong.{ResizeAlong}
use Rattle.call_machine.specs.declared.resize.ResizeStage.{ResizeStage}
use Rattle.call_machine.specs.declared.resize.ResizeStage.TheVariants as stage
use Rattle.call_machine.specs.Resize.{resumed}
use Rattle.call_machine.specs.declared.sweep.SweepAlong.{SweepAlong}
use Rattle.call_machine.specs.declared.sweep.SweepAsked.{SweepAsked}
use Rattle.call_machine.specs.declared.sweep.SweepStage.{SweepStage}
use Rattle.call_machine.specs.declared.sweep.SweepStage.TheVariants as sweep
use Rattle.call_machine.specs.declared.work.Work.{Work}
use Rattle.call_machine.specs.declared.work.Work.TheVariants as work
use Rattle.call_machine.specs.Begin.{left_of, answers, polls_grace}
use Rattle.call_machine.specs.CallSections.{claimed_slot}
use Rattle.call_machine.specs.Clean.{begins_poll}
use Rattle.call_machine.specs.Machine.{caller_of, beside, begun_grace_poll, begun_work_poll, starts, started, plan_of, own_of}
use Rattle.call_machine.specs.Poll.{work_left}
use Rattle.call_machine.specs.SoundMachine.{IsAllowed, MayStart, IsSoundMachine}
use Rattle.call_machine.specs.Sweep.{plan_at, begun_sweep}
use Rattle.call_machine.specs.WholeMachine.{IsSingle}
use Rattle.call_machine.specs.WholeSweep as sweeps
use Rattle.call_machine.specs.Work.{of_clean, resumes, begun_work}
use Rattle.call_machine.proofs.Machines.{plan_is}
use Rattle.call_machine.proofs.WholeCall.{none_at_end}
use Rattle.call_machine.proofs.WorkLock.{begin_law, end_law}
use Rattle.cht_core.specs.declared.seat.Seat.TheVariants as doing
use Rattle.cht_core.specs.Owes.{Owes, OwesNothing, waiting_of_work, locked_in_work}
use Rattle.cht_core.specs.Past.{Past}
use Rattle.cht_core.proofs.OwesCalls.{HasAtMost}
use Rattle.cht_core.proofs.OwesKept.{ClaimedAtMost, UnlinkedAtMost, LockedAtMost}

-- a seat that has nothing has no more than what it is at
pub owes_of_new_seat : (p : Past) (i : ℕ) (own : Own) → OwesNothing p i → Owes p i (doing.Idle own)
owes_of_new_seat p i own nothing = record {
  claimed = λ slot now. absurd (nothing.claimed slot now);
  unlinked = λ slot at now. inr (nothing.unlinked slot at now);
  locked = λ row bucket now. absurd (nothing.locked row bucket now);
  owner = λ now. absurd (nothing.owner now);
}

-- no slot waits for a work that has just begun, and it has locked no bucket
begun_has_nothing : (shape : Shape) (l : Left) → (waiting_of_work (begun_work shape l) ≡ []) × (locked_in_work (begun_work shape l) ≡ [])
begun_has_nothing shape left.Nothing = (refl, refl)
begun_has_nothing shape left.Clean = (refl, refl)
begun_has_nothing shape (left.Resize Grow level) = (refl, refl)
begun_has_nothing shape (left.Resize Shrink level) = (refl, refl)
begun_has_nothing shape (left.Grace g) = (refl, refl)

-- nor does one for a sweep that has answered
swept_has_nothing : (q : SweepAsked) (w : SweepAlong) (s : SweepStage) (a : Answer) → plan_at q w s ≡ plan.Answered a → (sweeps.still_waiting w.cleaning s ≡ []) × (option_to_list (sweeps.locked_at w.cleaning s) ≡ [])
swept_has_nothing q w (sweep.Answered b) a is = (refl, refl)
swept_has_nothing q w _ a is = absurd (cc)

-- once a call has answered its seat has no more than what it keeps of its own
pub owes_at_rest : (p : Past) (i : ℕ) (k : Machine) (a : Answer) → IsSoundMachine k → Owes p i (doing.Running k) → plan_of k ≡ plan.Answered a → Owes p i (doing.Idle (own_of k))
owes_at_rest p i (machine.Call c w g) a sound owes is =
    let none : claimed_slot c ≡ None = none_at_end c a sound.0 (sym (plan_is (machine.Call c w g)) ∙ is) in
    record { claimed = λ slot now. sym none ∙ owes.claimed slot now; unlinked = owes.unlinked; locked = owes.locked; owner = owes.owner }
owes_at_rest p i (machine.Begin b) a sound owes is =
    let (waits, locks) = begun_has_nothing b.caller.shape (left_of b.stage) in
    record {
      claimed = owes.claimed;
      unlinked = subst (UnlinkedAtMost p i) (sym waits) owes.unlinked;
      locked = subst (LockedAtMost p i) (sym locks) owes.locked;
      owner = λ now. sym (end_law (machine.Begin b) a is) ∙ owes.owner now;
    }
owes_at_rest p i (machine.Poll q) a sound owes is = record { claimed = owes.claimed; unlinked = owes.unlinked; locked = owes.locked; owner = owes.owner }
owes_at_rest p i (machine.Sweep s) a sound owes is =
    let (waits, locks) = swept_has_nothing s.asked s.along s.stage a (sym (plan_is (machine.Sweep s)) ∙ is) in
    record {
      claimed = owes.claimed;
      unlinked = subst (UnlinkedAtMost p i) waits owes.unlinked;
      locked = subst (LockedAtMost p i) locks owes.locked;
      owner = owes.owner;
    }

-- a seat at rest has claimed no slot, so that any try call may begin beside its work
beside_has : (p : Past) (i : ℕ) (own : Own) (c : Calling) → Owes p i (doing.Idle own) → HasAtMost p i (doing.Running (beside own c))
beside_has p i own c owes = record {
  claimed = λ slot now. let never : None ≡ Some slot = owes.claimed slot now in absurd (cc);
  unlinked = owes.unlinked;
  locked = owes.locked;
}

-- at rest without a work no slot waits and no bucket is locked
no_work_has : (p : Past) (i : ℕ) (w : Option Work) → is_some w ≡ false → UnlinkedAtMost p i (waiting_of_work w) → LockedAtMost p i (locked_in_work w) → UnlinkedAtMost p i [] × LockedAtMost p i []
no_work_has p i None none waits locks = (waits, locks)
no_work_has p i (Some w) none waits locks = absurd (cc)

-- so it is as a work or a grace begins, or a grace is polled
begin_starts : (p : Past) (i : ℕ) (own : Own) (b : Beginning) → Owes p i (doing.Idle own) → is_some own.work ≡ false → HasAtMost p i (doing.Running (machine.Begin b))
begin_starts p i own b owes none =
    let (waits, locks) = no_work_has p i own.work none owes.unlinked owes.locked in
    record { claimed = owes.claimed; unlinked = waits; locked = locks }

grace_poll_starts : (p : Past) (i : ℕ) (own : Own) (caller : Caller) (g : Option Grace) → Owes p i (doing.Idle own) → is_some own.work ≡ false → HasAtMost p i (doing.Running (begun_grace_poll caller g))
grace_poll_starts p i own caller (Some g) owes none = begin_starts p i own (polls_grace caller g) owes none
grace_poll_starts p i own caller None owes none = begin_starts p i own (record { caller = caller; stage = answers answer.Ready }) owes none

-- and as a sweep begins
sweep_starts : (p : Past) (i : ℕ) (own : Own) (caller : Caller) (hash : ℕ) → Owes p i (doing.Idle own) → is_some own.work ≡ false → HasAtMost p i (doing.Running (machine.Sweep (begun_sweep caller hash)))
sweep_starts p i own caller hash owes none =
    let (waits, locks) = no_work_has p i own.work none owes.unlinked owes.locked in
    record { claimed = owes.claimed; unlinked = waits; locked = locks }

-- a new poll leaves the slots that wait and the bucket that is locked
abbrev IsLeft : Work → Work → Option Answer → Type 0
IsLeft w v a = (waiting_of_work (work_left v a) ≡ waiting_of_work (Some w)) × (locked_in_work (work_left v a) ≡ locked_in_work (Some w))

resumes_leaves : (w : Work) → IsLeft w (resumes w).0 (resumes w).1
resumes_leaves (work.Resize r) = of_resize r.along r.stage
  where
    of_resize : (w : ResizeAlong) (s : ResizeStage) → IsLeft (work.Resize r) (work.Resize r) (resumed w s)
    of_resize w (stage.Grace then_do RaiseCounter) = either_way (IsLeft (work.Resize r) (work.Resize r)) (nat_le (2 ^ 63) w.grace.raised) (Some (answer.PendingSeat 0)) None (refl, refl) (refl, refl)
    of_resize w (stage.Grace then_do LoadSection) = (refl, refl)
    of_resize w _ = (refl, refl)
resumes_leaves (work.Clean c) = at_stage c.along c.stage
  where
    at_stage : (w : CleanAlong) (s : CleanStage) → let came = of_clean (begins_poll w s) in IsLeft (work.Clean (record { along = w; stage = s })) came.0 came.1
    at_stage w (clean.Grace freeing RaiseCounter) =
        let came = of_clean (begins_poll w (clean.Grace freeing RaiseCounter)) in
        either_way (IsLeft (work.Clean (record { along = w; stage = clean.Grace freeing RaiseCounter })) came.0) (nat_le (2 ^ 63) w.grace.raised) (Some (answer.PendingSeat 0)) None (refl, refl) (refl, refl)
    at_stage w (clean.Grace freeing LoadSection) = (refl, refl)
    at_stage w _ = (refl, refl)

work_poll_starts : (p : Past) (i : ℕ) (caller : Caller) (w : Option Work) → ClaimedAtMost p i None → UnlinkedAtMost p i (waiting_of_work w) → LockedAtMost p i (locked_in_work w)
    → HasAtMost p i (doing.Running (begun_work_poll caller w))
work_poll_starts p i caller None claims waits locks = record { claimed = claims; unlinked = waits; locked = locks }
work_poll_starts p i caller (Some w) claims waits locks =
    let (same_slots, same_bucket) = resumes_leaves w in
    record { claimed = claims; unlinked = subst (UnlinkedAtMost p i) (sym same_slots) waits; locked = subst (LockedAtMost p i) (sym same_bucket) locks }

-- at the beginning of each call, but for the resize lock
starts_has : (p : Past) (i : ℕ) (caller : Caller) (own : Own) (c : Call) → IsSingle own → IsAllowed caller.kind (is_some own.work) (is_some own.grace) c → Owes p i (doing.Idle own)
    → HasAtMost p i (doing.Running (starts caller own c))
starts_has p i caller own call.BeginClean single idle owes = begin_starts p i own _ owes idle.0
starts_has p i caller own call.BeginGrow single idle owes = begin_starts p i own _ owes idle.0
starts_has p i caller own call.BeginShrink single idle owes = begin_starts p i own _ owes idle.0
starts_has p i caller own call.BeginGrace single idle owes = begin_starts p i own _ owes idle.0
starts_has p i caller own call.PollGrace single some owes = grace_poll_starts p i own caller own.grace owes (⊎_elim (λ none. none) (λ none. absurd (cc)) single)
starts_has p i caller own call.PollWork single some owes = work_poll_starts p i caller own.work owes.claimed owes.unlinked owes.locked
starts_has p i caller own (call.Sweep text) single idle owes = sweep_starts p i own caller (hash_of caller.seed text.now) owes idle.0
starts_has p i caller own _ single may owes = beside_has p i own _ owes

-- a call that may start is begun with no more than what its seat had
pub owes_started : (p : Past) (i : ℕ) (kind : Kind) (shape : Shape) (seed : ℕ) (own : Own) (c : Call) → IsSingle own → MayStart kind shape own c → Owes p i (doing.Idle own)
    → Owes p i (doing.Running (started kind shape seed own c))
owes_started p i kind shape seed own c single may owes =
    let has = starts_has p i (caller_of kind shape seed own) own c single may.2 owes in
    record {
      claimed = has.claimed;
      unlinked = has.unlinked;
      locked = has.locked;
      owner = λ now. begin_law kind shape seed own c single may ∙ owes.owner now;
    }
