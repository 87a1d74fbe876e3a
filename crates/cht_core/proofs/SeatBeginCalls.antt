-- What the machine of each call knows, draws and raises as it begins.
use Rattle.std.proofs.Common.{◌≡◌, ℕ, ◌^◌, ◌≤◌, true, List, [], Option, Some, None, IfSome, inl, inr, refl, sym, ap, subst, ◌∙◌, arith}
use Rattle.std.specs.Prelude.{nat_le, is_some}
use Rattle.text_words.specs.Hash.{hash_of}
use Rattle.intern_log.specs.declared.event.Event.{Event}
use Rattle.intern_log.specs.declared.event.Handle.{Handle}
use Rattle.intern_log.specs.declared.event.Kind.{Kind}
use Rattle.intern_log.specs.declared.event.Kind.TheVariants.{Counted, Weak}
use Rattle.atomic_step.specs.declared.answer.Answer.{Answer}
use Rattle.atomic_step.specs.declared.answer.Answer.TheVariants as answer
use Rattle.atomic_step.specs.declared.count.Change.{Change}
use Rattle.atomic_step.specs.declared.count.Change.TheVariants as change
use Rattle.atomic_step.proofs.Choices.{either_way}
use Rattle.call_machine.specs.declared.begin.BeginStage.{BeginStage}
use Rattle.call_machine.specs.declared.begin.BeginStage.TheVariants as begin
use Rattle.call_machine.specs.declared.begin.Left.{Left}
use Rattle.call_machine.specs.declared.begin.Left.TheVariants as left
use Rattle.call_machine.specs.declared.begin.Task.TheVariants as task
use Rattle.call_machine.specs.declared.call.Call.{Call}
use Rattle.call_machine.specs.declared.call.Call.TheVariants as call
use Rattle.call_machine.specs.declared.caller.Caller.{Caller}
use Rattle.call_machine.specs.declared.clean.Clean.{Clean}
use Rattle.call_machine.specs.declared.clean.CleanAlong.{CleanAlong}
use Rattle.call_machine.specs.declared.clean.CleanStage.{CleanStage}
use Rattle.call_machine.specs.declared.clean.CleanStage.TheVariants as clean
use Rattle.call_machine.specs.declared.draw.DrawStage.TheVariants as draw
use Rattle.call_machine.specs.declared.enter.EnterStage.TheVariants.{LoadCounter}
use Rattle.call_machine.specs.declared.find.FindStage.TheVariants as find
use Rattle.call_machine.specs.declared.grace.Grace.{Grace}
use Rattle.call_machine.specs.declared.grace.GraceStage.TheVariants.{RaiseCounter, LoadSection}
use Rattle.call_machine.specs.declared.handle.HandleStage.TheVariants as handle
use Rattle.call_machine.specs.declared.machine.Machine.{Machine}
use Rattle.call_machine.specs.declared.machine.Machine.TheVariants as machine
use Rattle.call_machine.specs.declared.machine.Own.{Own}
use Rattle.call_machine.specs.declared.poll.Polling.{Polling}
use Rattle.call_machine.specs.declared.stage.Asked.{Asked}
use Rattle.call_machine.specs.declared.stage.Calling.{Calling}
use Rattle.call_machine.specs.declared.stage.CallStage.{CallStage}
use Rattle.call_machine.specs.declared.stage.CallStage.TheVariants as stage
use Rattle.call_machine.specs.declared.stage.Goal.{Goal}
use Rattle.call_machine.specs.declared.stage.Goal.TheVariants as goal
use Rattle.call_machine.specs.declared.work.Work.{Work}
use Rattle.call_machine.specs.declared.work.Work.TheVariants as work
use Rattle.call_machine.specs.BeginCall as calls
use Rattle.call_machine.specs.BeginCall.{begun_walk, begun_change, begun_read, no_handle, too_long}
use Rattle.call_machine.specs.Begin.{answers, left_of}
use Rattle.call_machine.specs.Clean.{resumed}
use Rattle.call_machine.specs.Machine.{caller_of, beside, begun_grace_poll, begun_work_poll, nothing, starts, own_begun}
use Rattle.call_machine.specs.Poll.{begun_poll, work_left}
use Rattle.call_machine.specs.Read.{first_read}
use Rattle.call_machine.specs.SoundMachine.{IsAllowed, IsSoundMachine}
use Rattle.call_machine.specs.Sought.{is_too_long}
use Rattle.call_machine.specs.Sweep.{begun_sweep}
use Rattle.call_machine.specs.WholeMachine.{IsSingle}
use Rattle.call_machine.specs.Work.{resumes}
use Rattle.call_machine.specs.declared.resize.Resize.{Resize}
use Rattle.call_machine.specs.declared.resize.ResizeAlong.{ResizeAlong}
use Rattle.call_machine.specs.declared.resize.ResizeStage.{ResizeStage}
use Rattle.call_machine.specs.declared.resize.ResizeStage.TheVariants as resize
use Rattle.call_machine.specs.Resize as resizes
use Rattle.cht_core.specs.declared.seat.Seat.TheVariants as doing
use Rattle.cht_core.specs.declared.table.Table.{Table}
use Rattle.cht_core.specs.Begins.{IsHeld, IsCreated, MayRead, MeetsLog, HasBytes}
use Rattle.cht_core.specs.Bounds.{raised_by, raises_work, draws_at, raises_begin}
use Rattle.cht_core.specs.Flow.{Flow}
use Rattle.cht_core.specs.KnowsCall.{MayChange, KnowsRead, KnowsStage}
use Rattle.cht_core.specs.KnowsWork.{KnowsGrace, KnowsWork, KnowsBegin}
use Rattle.cht_core.specs.Memory.{Memory}
use Rattle.cht_core.specs.Past.{Past}
use Rattle.cht_core.specs.Slots.{AreBytes}
use Rattle.cht_core.specs.View.{IsOfSeat, IsOwnOf, KnowsOwn, KnowsMachine}
use Rattle.cht_core.proofs.PollStages.{resumed_knows}
use Rattle.cht_core.proofs.SeatMoves.{IsNoMore}

-- the empty text is one of bytes
no_bytes : AreBytes []
no_bytes at d inside = absurd (omega (arith, inside))

-- a new poll of a clean has the clean still, with its counter as it was raised last
resumed_left : (w : CleanAlong) (s : CleanStage) (c : Work) → work_left c (resumed w s) ≡ Some c
resumed_left w clean.LoadLevel c = refl
resumed_left w (clean.Lock s) c = refl
resumed_left w (clean.Pass s) c = refl
resumed_left w clean.UnlockHead c = refl
resumed_left w (clean.Grace freeing RaiseCounter) c = either_way (λ (a : Option Answer). work_left c a ≡ Some c) (nat_le (2 ^ 63) w.grace.raised) (Some (answer.PendingSeat 0)) None refl refl
resumed_left w (clean.Grace freeing LoadSection) c = refl
resumed_left w (clean.Free freeing s) c = refl
resumed_left w clean.GiveResizeLock c = refl

resize_resumed_left : (w : ResizeAlong) (s : ResizeStage) (c : Work) → work_left c (resizes.resumed w s) ≡ Some c
resize_resumed_left w (resize.Grace then_do RaiseCounter) c = either_way (λ (a : Option Answer). work_left c a ≡ Some c) (nat_le (2 ^ 63) w.grace.raised) (Some (answer.PendingSeat 0)) None refl refl
resize_resumed_left w (resize.Grace then_do LoadSection) c = refl
resize_resumed_left w _ c = refl

-- a poll that is begun twice is begun once
resumed_twice : (w : CleanAlong) (s : CleanStage) → resumed (record w { full_passes = 0 }) s ≡ resumed w s
resumed_twice w clean.LoadLevel = refl
resumed_twice w (clean.Lock s) = refl
resumed_twice w (clean.Pass s) = refl
resumed_twice w clean.UnlockHead = refl
resumed_twice w (clean.Grace freeing RaiseCounter) = refl
resumed_twice w (clean.Grace freeing LoadSection) = refl
resumed_twice w (clean.Free freeing s) = refl
resumed_twice w clean.GiveResizeLock = refl

module _ (t : Table) (m : Memory) (p : Past) (f : Flow) (i load : ℕ) (own : Own) (of : IsOwnOf t i own) (known : KnowsOwn m p f i own) where
  -- a machine of the seat, if it is sound: what it knows as it begins, and that it may do no more than the seat before it
  abbrev pub Begins : Machine → Type 0
  Begins k = IsSoundMachine k → (IsOfSeat t p.now i k × KnowsMachine m p f i load [] k) × IsNoMore (doing.Idle own) (doing.Running k)

  -- who calls
  abbrev pub caller : Caller
  caller = caller_of t.kind t.shape p.now.seed own

  -- a try call or a call by handle
  call_begins : (aim : Goal) (text : List ℕ) (h : Handle) (s : CallStage) → AreBytes text → draws_at s ≡ 0 →
      KnowsStage m p f i load [] (calls.begins caller aim text h s).asked (calls.begins caller aim text h s).along s → Begins (beside own (calls.begins caller aim text h s))
  call_begins aim text h s bytes none knows sound = (
    (record { shape = refl; kind = refl; seed = refl; number = of.number; bytes = bytes; sound = sound; single = of.single }, ((knows, omega arith), known.1, known.2)),
    record {
      draws = omega (arith, none);
      raises = omega arith;
      works = λ w is raised. (w, is, refl);
      polls = λ q running unanswered. absurd (cc);
    },
  )

  -- a look-up or an intern: a text that is too long is answered at once
  walk_begins : (aim : Goal) (text : List ℕ) → AreBytes text → Begins (beside own (begun_walk caller aim text))
  walk_begins aim text bytes = either_way (λ (c : Calling). Begins (beside own c)) (is_too_long t.shape text)
      (calls.begins caller aim [] no_handle (stage.Answered (too_long aim))) (calls.begins caller aim text no_handle (stage.Find (find.Enter LoadCounter)))
      (call_begins aim [] no_handle (stage.Answered (too_long aim)) no_bytes refl known.0)
      (call_begins aim text no_handle (stage.Find (find.Enter LoadCounter)) bytes refl (known.0, tt, refl, refl))

  -- a call that begins a work or a grace
  begin_begins : (s : BeginStage) → KnowsBegin p.now f i s → raises_begin s ≡ 0 → left_of s ≡ left.Nothing → Begins (machine.Begin (record { caller = caller; stage = s }))
  begin_begins s knows none nothing_left sound = (
    (
      record {
        shape = refl;
        kind = refl;
        seed = refl;
        number = of.number;
        bytes = no_bytes;
        sound = sound;
        single = subst (λ (l : Left). IsSingle (own_begun caller l)) (sym nothing_left) (inl refl);
      },
      (known.0, knows),
    ),
    record {
      draws = omega arith;
      raises = omega (arith, none);
      works = λ w is raised. absurd (cc);
      polls = λ q running unanswered. absurd (cc);
    },
  )

  -- a poll of nothing
  nothing_begins : Begins (nothing caller)
  nothing_begins = begin_begins (answers answer.Ready) tt refl refl

  -- a poll of a grace
  grace_poll_begins : (g : Option Grace) → own.grace ≡ g → Begins (begun_grace_poll caller g)
  grace_poll_begins None is = nothing_begins
  grace_poll_begins (Some g) is = begin_begins (begin.Grace g LoadSection) (subst (λ (o : Option Grace). IfSome o (KnowsGrace p.now)) is known.2) refl refl

  -- a poll of a work
  clean_poll_begins : (c : Clean) → own.work ≡ Some (work.Clean c) → Begins (machine.Poll (begun_poll caller (work.Clean c)))
  clean_poll_begins c is sound =
      let now : Work = (resumes (work.Clean c)).0 in
      let left : work_left now (resumes (work.Clean c)).1 ≡ Some now = resumed_left c.along c.stage now in
      let raises : raises_work (work_left now (resumes (work.Clean c)).1) ≡ raises_work own.work = ap raises_work left ∙ ap raises_work (sym is) in (
        (
          record { shape = refl; kind = refl; seed = refl; number = of.number; bytes = no_bytes; sound = sound; single = inr refl },
          (known.0, resumed_knows m p f i (work.Clean c) (subst (λ (o : Option Work). IfSome o (KnowsWork m p f i)) is known.1)),
        ),
        record {
          draws = omega arith;
          raises = omega (arith, raises);
          works = λ w at raised.
              let same : now ≡ w = cc in
              (work.Clean c, is, ap raised_by same);
          polls = λ q running unanswered.
              let same : begun_poll caller (work.Clean c) ≡ q = cc in
              let twice : (resumes now).1 ≡ (resumes (work.Clean c)).1 = resumed_twice c.along c.stage in
              ap (λ (x : Polling). (resumes x.work).1) (sym same) ∙ twice ∙ ap (λ (x : Polling). x.answer) same ∙ unanswered;
        },
      )

  resize_poll_begins : (r : Resize) → own.work ≡ Some (work.Resize r) → Begins (machine.Poll (begun_poll caller (work.Resize r)))
  resize_poll_begins r is sound =
      let now : Work = work.Resize r in
      let left : work_left now (resumes now).1 ≡ Some now = resize_resumed_left r.along r.stage now in
      let raises : raises_work (work_left now (resumes now).1) ≡ raises_work own.work = ap raises_work left ∙ ap raises_work (sym is) in (
        (
          record { shape = refl; kind = refl; seed = refl; number = of.number; bytes = no_bytes; sound = sound; single = inr refl },
          (known.0, resumed_knows m p f i now (subst (λ (o : Option Work). IfSome o (KnowsWork m p f i)) is known.1)),
        ),
        record {
          draws = omega arith;
          raises = omega (arith, raises);
          works = λ w at raised.
              let same : now ≡ w = cc in
              (now, is, ap raised_by same);
          polls = λ q running unanswered.
              let same : begun_poll caller now ≡ q = cc in
              ap (λ (x : Polling). (resumes x.work).1) (sym same) ∙ ap (λ (x : Polling). x.answer) same ∙ unanswered;
        },
      )

  work_poll_begins : (w : Option Work) → own.work ≡ w → Begins (begun_work_poll caller w)
  work_poll_begins None is = nothing_begins
  work_poll_begins (Some (work.Clean c)) is = clean_poll_begins c is
  work_poll_begins (Some (work.Resize r)) is = resize_poll_begins r is

  -- a sweep
  sweep_begins : (hash : ℕ) → Begins (machine.Sweep (begun_sweep caller hash))
  sweep_begins hash sound = (
    (record { shape = refl; kind = refl; seed = refl; number = of.number; bytes = no_bytes; sound = sound; single = inl refl }, known.0),
    record {
      draws = omega arith;
      raises = omega arith;
      works = λ w is raised. absurd (cc);
      polls = λ q running unanswered. absurd (cc);
    },
  )

  -- what the log tells of a handle that the call names
  module _ (log : List Event) (numbers : List ℕ) (held : (h : Handle) → IsHeld log numbers h → 1 ≤ f.holds i h) (created : (h : Handle) → IsCreated log h → p.made h ≡ true) where
    read_begins : (kind : Kind) (q : Asked) → MayRead kind log numbers q.handle → KnowsRead m p f i q kind (first_read kind)
    read_begins Counted q may = (known.0, held q.handle may)
    read_begins Weak q may = (known.0, created q.handle may)

    change_begins : (way : Change) (h : Handle) → MayChange t.kind p f i way h → Begins (beside own (begun_change caller way h))
    change_begins way h may = call_begins goal.Lookup [] h (stage.Handle (handle.Count way)) no_bytes refl (known.0, may)

    -- each call at its beginning
    pub starts_begins : (c : Call) → IsAllowed t.kind (is_some own.work) (is_some own.grace) c → HasBytes c → MeetsLog t.kind log numbers c → Begins (starts caller own c)
    starts_begins call.Split allowed bytes may = call_begins goal.Lookup [] no_handle (stage.Draw draw.Load) no_bytes refl known.0
    starts_begins (call.Intern text) allowed bytes may = walk_begins goal.Intern text.now bytes
    starts_begins (call.Lookup text) allowed bytes may = walk_begins goal.Lookup text.now bytes
    starts_begins (call.InternWait text) allowed bytes may = walk_begins goal.InternWait text.now bytes
    starts_begins (call.TextOf h) allowed bytes may =
        call_begins goal.Lookup [] h (stage.Read (first_read t.kind)) no_bytes refl (read_begins t.kind (begun_read caller h).asked may)
    starts_begins (call.Drop h) allowed bytes may = change_begins change.Drop h (allowed, held h may)
    starts_begins (call.Permanent h) allowed bytes may = change_begins change.Permanent h (allowed, held h may)
    starts_begins (call.Kill h) allowed bytes may = change_begins change.Kill h (allowed, created h may)
    starts_begins call.BeginClean allowed bytes may = begin_begins (begin.LoadCounter (Some task.Clean)) tt refl refl
    starts_begins call.BeginGrow allowed bytes may = begin_begins (begin.LoadCounter (Some task.Grow)) tt refl refl
    starts_begins call.BeginShrink allowed bytes may = begin_begins (begin.LoadCounter (Some task.Shrink)) tt refl refl
    starts_begins call.BeginGrace allowed bytes may = begin_begins (begin.LoadCounter None) tt refl refl
    starts_begins call.PollGrace allowed bytes may = grace_poll_begins own.grace refl
    starts_begins call.PollWork allowed bytes may = work_poll_begins own.work refl
    starts_begins (call.Sweep text) allowed bytes may = sweep_begins (hash_of p.now.seed text.now)
