-- A call that begins is followed from its first stage on, and one that answers at once says why.
use Rattle.std.proofs.Common.{◌≡◌, ℕ, ◌≤◌, Bool, true, false, cond, List, [], ◌∷◌, append-nil, Option, Some, None, IfSome, inl, inr, ◌⊎◌}
use Rattle.std.proofs.Common.{refl, sym, ap, subst, ◌∙◌, arith}
use Rattle.table_shape.specs.declared.shape.Shape.{Shape}
use Rattle.intern_log.specs.declared.event.Handle.{Handle}
use Rattle.intern_log.specs.declared.event.Kind.{Kind}
use Rattle.intern_log.specs.declared.event.Kind.TheVariants.{Counted, Weak}
use Rattle.intern_log.specs.Now.{opening}
use Rattle.intern_log.specs.TextMap.{entry_of}
use Rattle.intern_log.proofs.LawfulLaws.{texts-now_after}
use Rattle.atomic_step.specs.declared.answer.Answer.{Answer}
use Rattle.atomic_step.specs.declared.answer.Answer.TheVariants as answer
use Rattle.atomic_step.specs.declared.plan.Plan.{Plan}
use Rattle.atomic_step.specs.declared.plan.Plan.TheVariants as plan
use Rattle.atomic_step.specs.declared.step.Step.{Step}
use Rattle.atomic_step.specs.declared.step.Step.TheVariants as step
use Rattle.call_machine.specs.declared.call.Call.{Call}
use Rattle.call_machine.specs.declared.call.Call.TheVariants as call
use Rattle.call_machine.specs.declared.caller.Caller.{Caller}
use Rattle.call_machine.specs.declared.enter.EnterStage.TheVariants.{LoadCounter}
use Rattle.call_machine.specs.declared.find.FindStage.TheVariants as find
use Rattle.call_machine.specs.declared.machine.Machine.{Machine}
use Rattle.call_machine.specs.declared.machine.Own.{Own}
use Rattle.call_machine.specs.declared.stage.CallStage.TheVariants as stage
use Rattle.call_machine.specs.declared.stage.Goal.TheVariants as goal
use Rattle.call_machine.specs.BeginCall.{begins, no_handle, begun_walk}
use Rattle.call_machine.specs.Machine.{caller_of, beside, started, plan_of}
use Rattle.call_machine.specs.Sought.{is_too_long}
use Rattle.call_machine.proofs.Machines.{start_law}
use Rattle.call_machine.specs.declared.work.Work.{Work}
use Rattle.intern_log.specs.Now.{owner_of}
use Rattle.cht_core.specs.declared.seat.Seat.TheVariants as doing
use Rattle.cht_core.specs.declared.table.Table.{Table}
use Rattle.cht_core.specs.Begins.{HasBytes, IsHeld, MayRead}
use Rattle.cht_core.specs.CauseCalls.{WasMade, IsAbsent}
use Rattle.cht_core.specs.Caused.{way_of, Caused, MayCause, Cause}
use Rattle.cht_core.specs.Causes.{now_in, IsResting}
use Rattle.cht_core.specs.HeadKept.{Headed}
use Rattle.cht_core.specs.Memory.{memory_of}
use Rattle.cht_core.specs.Past.{past_of}
use Rattle.cht_core.specs.Runs.{CauseAtOnce}
use Rattle.cht_core.specs.State.{Core, IsCore, CanStart, seat_in, at_rest, seat_after, with_seat, views_of}
use Rattle.cht_core.specs.View.{IsOwnOf}
use Rattle.cht_core.proofs.CauseAnswers.{caused_begins, cause_answered}
use Rattle.cht_core.proofs.CauseFew.{work_has_lock}
use Rattle.cht_core.proofs.CauseHolds.{held_was_made}
use Rattle.cht_core.proofs.CauseRests.{headed_begins, too_long_is_absent}
use Rattle.cht_core.proofs.RunFollows.{Following}
use Rattle.cht_core.proofs.StateStarts.{view_at, view_is, started_after}

-- a look-up whose text is too long misses at once, and any other makes a step
long_or_goes : (shape : Shape) (caller : Caller) (own : Own) (text : List ℕ) → caller.shape ≡ shape
    → ((is_too_long shape text ≡ true) × (plan_of (beside own (begun_walk caller goal.Lookup text)) ≡ plan.Answered answer.Miss))
    ⊎ ((is_too_long shape text ≡ false) × (plan_of (beside own (begun_walk caller goal.Lookup text)) ≡ plan.Step step.LoadCounter))
long_or_goes shape caller own text same = go (is_too_long caller.shape text) refl
  where
    go : (b : Bool) → is_too_long caller.shape text ≡ b → ((is_too_long shape text ≡ true) × (plan_of (beside own (begun_walk caller goal.Lookup text)) ≡ plan.Answered answer.Miss))
        ⊎ ((is_too_long shape text ≡ false) × (plan_of (beside own (begun_walk caller goal.Lookup text)) ≡ plan.Step step.LoadCounter))
    go true is = inl (
      subst (λ (x : Shape). is_too_long x text ≡ true) same is,
      ap (λ b. plan_of (beside own (cond b (begins caller goal.Lookup [] no_handle (stage.Answered answer.Miss)) (begins caller goal.Lookup text no_handle (stage.Find (find.Enter LoadCounter)))))) is,
    )
    go false is = inr (
      subst (λ (x : Shape). is_too_long x text ≡ false) same is,
      ap (λ b. plan_of (beside own (cond b (begins caller goal.Lookup [] no_handle (stage.Answered answer.Miss)) (begins caller goal.Lookup text no_handle (stage.Find (find.Enter LoadCounter)))))) is,
    )

-- a call that is no look-up of a text that is too long
abbrev IsShort : Shape → Call → Type 0
IsShort shape (call.Lookup text) = is_too_long shape text.now ≡ false
IsShort shape _ = Unit {0}

-- a call that makes a step is none
short_goes : (t : Table) (seed : ℕ) (own : Own) (asked : Call) (s : Step) → plan_of (started t.kind t.shape seed own asked) ≡ plan.Step s → IsShort t.shape asked
short_goes t seed own (call.Lookup text) s goes = elim (long_or_goes t.shape (caller_of t.kind t.shape seed own) own text.now refl) [
  | inl long ↦ let answers = long.1 in absurd (cc)
  | inr short ↦ short.0
]
short_goes t seed own _ s goes = tt

module _ (c : Core) (core : IsCore c) (k : ℕ) (own : Own) (asked : Call) (at : seat_in c.seats k ≡ Some (doing.Idle own)) (bytes : HasBytes asked) (can : CanStart c own asked) where
  known : IsOwnOf c.table k own
  known = (core.inv.knows k (view_at (core.sights k) k (doing.Idle own)) (view_is core.sights c.seats k (doing.Idle own) at)).0

  -- a handle that is held was created
  held_made : (h : Handle) → c.table.kind ≡ Counted → IsHeld c.log (own.number ∷ []) h → WasMade c.table c.log h
  held_made h counted held =
      held_was_made c.table (memory_of c.table.shape c.words) (views_of core.sights c.seats) c.log k (view_at (core.sights k) k (doing.Idle own)) h core.inv
      (view_is core.sights c.seats k (doing.Idle own) at) counted (subst (λ n. IsHeld c.log (n ∷ []) h) known.number held)

  read_made : (h : Handle) (kind : Kind) → c.table.kind ≡ kind → MayRead kind c.log (own.number ∷ []) h → WasMade c.table c.log h
  read_made h Counted is may = held_made h is may
  read_made h Weak is may = may

  -- an unfinished work rests, and its seat has the resize lock
  resting_owner : (work : Option Work) → own.work ≡ work → IfSome work IsResting → IfSome work (λ w. IsResting w × (owner_of (now_in c.table c.log).resizing ≡ Some k))
  resting_owner None is rests = tt
  resting_owner (Some w) is rests = (
    rests,
    work_has_lock c.table (memory_of c.table.shape c.words) (views_of core.sights c.seats) c.log k (view_at (core.sights k) k (doing.Idle own)) own w core.inv
        (view_is core.sights c.seats k (doing.Idle own) at) refl is,
  )

  begun_state : (caused : Caused c.table k (way_of asked) c.log [] (core.sights k).0 (started c.table.kind c.table.shape c.seed own asked)) (s : Step) →
      plan_of (started c.table.kind c.table.shape c.seed own asked) ≡ plan.Step s →
      Following k (way_of asked) c.log (with_seat c k (seat_after (started c.table.kind c.table.shape c.seed own asked))) (started c.table.kind c.table.shape c.seed own asked)
  begun_state caused s goes =
      let machine : Machine = started c.table.kind c.table.shape c.seed own asked in
      let after = started_after c core k own at asked bytes can.may can.log in
      record {
        core = after.core;
        at = after.own.1 ∙ ap (λ (p : Plan). Some (at_rest machine p)) goes;
        window = [];
        log = sym (append-nil c.log);
        caused = subst (λ (sight : ℕ × List ℕ). Caused c.table k (way_of asked) c.log [] sight.0 machine) (sym after.own.0) caused;
        headed = subst (λ (sight : ℕ × List ℕ). Headed c.table (memory_of c.table.shape c.words) k sight.0 c.log machine) (sym after.own.0)
            (headed_begins c.table (memory_of c.table.shape c.words) k (core.sights k).0 c.log c.seed own asked (core.rests k (doing.Idle own) at));
      }

  -- nothing is found out yet
  begun_caused : MayCause c.table k c.log own asked → Caused c.table k (way_of asked) c.log [] (core.sights k).0 (started c.table.kind c.table.shape c.seed own asked)
  begun_caused may =
      let small : (now_in c.table c.log).seed ≤ 2 = core.inv.table.tidy.seed in
      let same : c.seed ≡ (now_in c.table c.log).seed = core.seed in
      caused_begins c.table k c.log (core.sights k).0 c.seed own asked core.inv.table.shape (omega (arith, small, same)) known.sound can.may may

  -- it has what it needs
  may_cause : (asked : Call) → CanStart c own asked → IsShort c.table.shape asked → MayCause c.table k c.log own asked
  may_cause (call.Lookup text) can short = short
  may_cause (call.TextOf h) can short = read_made h c.table.kind refl can.log
  may_cause (call.Drop h) can short = held_made h can.may.2 can.log
  may_cause (call.Permanent h) can short = held_made h can.may.2 can.log
  may_cause (call.Kill h) can short = can.log
  may_cause call.PollWork can short = resting_owner own.work refl (core.rests k (doing.Idle own) at)
  may_cause _ can short = tt

  -- a call that makes a step is followed
  pub begun_following : (s : Step) → plan_of (started c.table.kind c.table.shape c.seed own asked) ≡ plan.Step s →
      Following k (way_of asked) c.log (with_seat c k (seat_after (started c.table.kind c.table.shape c.seed own asked))) (started c.table.kind c.table.shape c.seed own asked)
  begun_following s goes = begun_state (begun_caused (may_cause asked can (short_goes c.table c.seed own asked s goes))) s goes

  -- one that is no such look-up and answers at once says why
  short_at_once : (a : Answer) → plan_of (started c.table.kind c.table.shape c.seed own asked) ≡ plan.Answered a → IsShort c.table.shape asked →
      Cause c.table k (way_of asked) c.log [] (started c.table.kind c.table.shape c.seed own asked) a
  short_at_once a is short =
      let small : (now_in c.table c.log).seed ≤ 2 = core.inv.table.tidy.seed in
      let same : c.seed ≡ (now_in c.table c.log).seed = core.seed in
      cause_answered c.table k (way_of asked) c.log [] (core.sights k).0 (started c.table.kind c.table.shape c.seed own asked) a
      (start_law c.table.kind c.table.shape c.seed own asked core.inv.table.shape (omega (arith, small, same)) known.sound can.may) is (begun_caused (may_cause asked can short))

-- a look-up of a text that is too long misses it, and it is absent
long_at_once : (c : Core) (core : IsCore c) (own : Own) (text : List ℕ) (a : Answer) → plan_of (beside own (begun_walk (caller_of c.table.kind c.table.shape c.seed own) goal.Lookup text)) ≡ plan.Answered a →
    (a ≡ answer.Miss) × IsAbsent text c.log
long_at_once c core own text a is = elim (long_or_goes c.table.shape (caller_of c.table.kind c.table.shape c.seed own) own text refl) [
  | inl long ↦
      let misses : plan_of (beside own (begun_walk (caller_of c.table.kind c.table.shape c.seed own) goal.Lookup text)) ≡ plan.Answered answer.Miss = long.1 in
      let same : a ≡ answer.Miss = cc in (
        same,
        subst (λ texts. entry_of texts text ≡ None) (texts-now_after (opening c.table.shape.min_level) c.log)
            (too_long_is_absent c.table (memory_of c.table.shape c.words) (past_of c.table.shape.min_level c.log) core.inv.flow text core.inv.table long.0),
      )
  | inr short ↦ let goes = short.1 in absurd (cc)
]

-- each call that answers at once says why
pub caused_at_once : (c : Core) (core : IsCore c) (k : ℕ) (own : Own) (asked : Call) → seat_in c.seats k ≡ Some (doing.Idle own) → HasBytes asked → CanStart c own asked → (a : Answer) →
    plan_of (started c.table.kind c.table.shape c.seed own asked) ≡ plan.Answered a → CauseAtOnce c.table k c.log (started c.table.kind c.table.shape c.seed own asked) asked a
caused_at_once c core k own (call.Lookup text) at bytes can a is = long_at_once c core own text.now a is
caused_at_once c core k own (call.Intern text) at bytes can a is = short_at_once c core k own (call.Intern text) at bytes can a is tt
caused_at_once c core k own (call.InternWait text) at bytes can a is = short_at_once c core k own (call.InternWait text) at bytes can a is tt
caused_at_once c core k own (call.TextOf h) at bytes can a is = short_at_once c core k own (call.TextOf h) at bytes can a is tt
caused_at_once c core k own (call.Drop h) at bytes can a is = short_at_once c core k own (call.Drop h) at bytes can a is tt
caused_at_once c core k own (call.Permanent h) at bytes can a is = short_at_once c core k own (call.Permanent h) at bytes can a is tt
caused_at_once c core k own (call.Kill h) at bytes can a is = short_at_once c core k own (call.Kill h) at bytes can a is tt
caused_at_once c core k own (call.Sweep text) at bytes can a is = short_at_once c core k own (call.Sweep text) at bytes can a is tt
caused_at_once c core k own call.Split at bytes can a is = short_at_once c core k own call.Split at bytes can a is tt
caused_at_once c core k own call.BeginClean at bytes can a is = short_at_once c core k own call.BeginClean at bytes can a is tt
caused_at_once c core k own call.BeginGrow at bytes can a is = short_at_once c core k own call.BeginGrow at bytes can a is tt
caused_at_once c core k own call.BeginShrink at bytes can a is = short_at_once c core k own call.BeginShrink at bytes can a is tt
caused_at_once c core k own call.BeginGrace at bytes can a is = short_at_once c core k own call.BeginGrace at bytes can a is tt
caused_at_once c core k own call.PollGrace at bytes can a is = short_at_once c core k own call.PollGrace at bytes can a is tt
caused_at_once c core k own call.PollWork at bytes can a is = short_at_once c core k own call.PollWork at bytes can a is tt
