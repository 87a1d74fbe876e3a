-- A step of any machine: the table backs it, and once it was made the machine knows what its next stage needs.
use Rattle.std.proofs.Common.{◌≡◌, ℕ, ◌+◌, ◌<◌, ◌^◌, List, [], Option, IfSome, subst}
use Rattle.table_shape.specs.declared.place.Place.TheVariants as place
use Rattle.atomic_step.specs.declared.plan.Plan.TheVariants as plan
use Rattle.atomic_step.specs.declared.step.Step.{Step}
use Rattle.atomic_step.specs.Event.{event_of}
use Rattle.table_shape.specs.declared.shape.Shape.{Shape}
use Rattle.atomic_step.specs.SoundStep.{IsSoundPlan}
use Rattle.atomic_step.specs.Turn.{Row, Turn, Answered, Makes, next_in, map_turn}
use Rattle.atomic_step.specs.declared.answer.Answer.{Answer}
use Rattle.call_machine.specs.declared.begin.Beginning.{Beginning}
use Rattle.call_machine.specs.declared.begin.BeginStage.{BeginStage}
use Rattle.call_machine.specs.declared.grace.Grace.{Grace}
use Rattle.call_machine.specs.declared.poll.Polling.{Polling}
use Rattle.call_machine.specs.declared.sweep.SweepAlong.{SweepAlong}
use Rattle.call_machine.specs.declared.sweep.SweepStage.{SweepStage}
use Rattle.call_machine.specs.declared.sweep.Sweeping.{Sweeping}
use Rattle.call_machine.specs.Begin.{begin_turn}
use Rattle.call_machine.specs.Poll.{poll_turn, state_of, polling, work_left}
use Rattle.call_machine.specs.Sweep.{sweep_turn}
use Rattle.call_machine.specs.Sweep as sweeps
use Rattle.call_machine.specs.declared.machine.Machine.{Machine}
use Rattle.call_machine.specs.declared.machine.Machine.TheVariants as machine
use Rattle.call_machine.specs.declared.stage.Along.{Along}
use Rattle.call_machine.specs.declared.stage.Calling.{Calling}
use Rattle.call_machine.specs.declared.stage.CallStage.{CallStage}
use Rattle.call_machine.specs.declared.work.Work.{Work}
use Rattle.call_machine.specs.Calls.{turn_at, plan_at, goes_to}
use Rattle.call_machine.specs.Machine.{plan_of, text_of, turn_of}
use Rattle.call_machine.specs.SoundCall.{IsSoundCall}
use Rattle.cht_core.specs.declared.table.Table.{Table}
use Rattle.cht_core.specs.Backs.{Backs, Goes, IsOfTry}
use Rattle.cht_core.specs.Flow.{Flow, flow_after}
use Rattle.cht_core.specs.KnowsWork.{KnowsWork, KnowsBegin}
use Rattle.cht_core.specs.Owes.{Owes}
use Rattle.cht_core.specs.Search.{IsOutside}
use Rattle.cht_core.specs.declared.seat.Seat.TheVariants as doing
use Rattle.cht_core.specs.Memory.{Memory, IsMade, found}
use Rattle.cht_core.specs.Past.{Past, told}
use Rattle.cht_core.specs.TableState.{IsTable}
use Rattle.cht_core.specs.View.{IsOfSeat, KnowsMachine, load_after, passed_after}
use Rattle.cht_core.proofs.CallSteps.{call_serves}
use Rattle.cht_core.proofs.CallTurns.{Serves}
use Rattle.cht_core.proofs.MachineCalls.{calls_try}
use Rattle.cht_core.proofs.BeginStages.{begin_backs, begin_next}
use Rattle.cht_core.proofs.GraceStages.{CanRaise}
use Rattle.cht_core.proofs.PollStages.{poll_backs, poll_next}
use Rattle.cht_core.proofs.StableSeats.{own_grace_grows, own_work_grows}
use Rattle.cht_core.proofs.SweepStages.{KnowsSwept, sweep_backs, sweep_next}
use Rattle.cht_core.proofs.Ties.{IsAskedOf}
use Rattle.cht_core.proofs.Turns.{IfMakes, if_planned, past_by, flow_of}

-- what the step of a machine is to do, and what the machine knows of the word that it finds
pub record Does (t : Table) (m : Memory) (p : Past) (f : Flow) (i load : ℕ) (passed text : List ℕ) (s : Step) (next : ℕ → Machine) : Type 0 where
  pub backs : Backs t m p f i text s
  pub leads : (m' : Memory) → IsMade s m m' → Goes t m p f i text s m' →
      KnowsMachine m' (told p i (event_of text s (found s m))) (flow_after p.now f i text s (found s m)) i (load_after s p.now.place load) (passed_after s passed) (next (found s m))

-- what is so of a row is so of its image; and two things that are so together
pub mapped : {S T : Type 0} (P : Step → (ℕ → T) → Type 0) (g : S → T) (turn : Turn S) → IfMakes (λ (does : Row S). P does.step (λ word. g (does.next word))) turn
    → IfMakes (λ (does : Row T). P does.step does.next) (map_turn g turn)
mapped P g (Answered a) so = tt
mapped P g (Makes does) so = so

pub both_make : {S : Type 0} (P Q R : Row S → Type 0) (turn : Turn S) → ((does : Row S) → P does → Q does → R does) → IfMakes P turn → IfMakes Q turn → IfMakes R turn
both_make P Q R (Answered a) joins first second = tt
both_make P Q R (Makes does) joins first second = joins does first second

module _ (t : Table) (m : Memory) (p : Past) (f : Flow) (table : IsTable t m p f) (i : ℕ) (inside : i < t.shape.seats) (load : ℕ) (passed : List ℕ) where
  -- a call, with the work and the grace of its seat beside it
  call_does : (c : Calling) (w : Option Work) (g : Option Grace) → IsOfSeat t p.now i (machine.Call c w g) → KnowsMachine m p f i load passed (machine.Call c w g) → m place.Draws + 1 < 2 ^ 64
      → IfMakes (λ (does : Row Machine). Does t m p f i load passed (text_of (machine.Call c w g)) does.step does.next) (turn_of (machine.Call c w g))
  call_does c w g of known small =
      let asked : IsAskedOf t p.now i c.asked = record { shape = of.shape; kind = of.kind; seed = of.seed; number = of.number; bytes = of.bytes } in
      let sound : IsSoundCall c = of.sound.0 in
      let at : IsSoundPlan t.shape i (plan_at c.asked c.along c.stage) =
      subst (λ (shape : Shape). IsSoundPlan shape i (plan_at c.asked c.along c.stage)) of.shape (subst (λ n. IsSoundPlan c.asked.shape n (plan_at c.asked c.along c.stage)) of.number sound.at.0) in
      mapped (Does t m p f i load passed c.asked.text) (λ at. machine.Call (goes_to c.asked at) w g) (turn_at c.asked c.along c.stage)
      (both_make (Serves t m p f i load passed c.asked) (λ (does : Row (Along × CallStage)). IsOfTry p.now i does.step)
      (λ (does : Row (Along × CallStage)). Does t m p f i load passed c.asked.text does.step (λ word. machine.Call (goes_to c.asked (does.next word)) w g)) (turn_at c.asked c.along c.stage)
      (λ does serves try. record {
        backs = serves.backs;
        leads = λ m' made goes. (
          serves.leads m' made goes,
          own_work_grows m p f m' (past_by p i c.asked.text does.step m) (flow_of p f i c.asked.text does.step m) goes.grows t table.tidy goes.table i (goes.leaves try) w known.1,
          own_grace_grows m p f m' (past_by p i c.asked.text does.step m) (flow_of p f i c.asked.text does.step m) goes.grows g known.2,
        );
      })
      (call_serves t m p f table i inside load passed c.asked c.along asked sound.asked.room sound.asked c.stage small at sound.at.1 known.0)
      (calls_try m p f i load passed c.asked c.along c.stage known.0))

  -- a call that begins a work or a grace
  begin_does : (b : Beginning) → IsOfSeat t p.now i (machine.Begin b) → KnowsMachine m p f i load passed (machine.Begin b) → Owes p i (doing.Running (machine.Begin b))
      → IfMakes (λ (does : Row Machine). CanRaise m does.step → Does t m p f i load passed [] does.step does.next) (turn_of (machine.Begin b))
  begin_does b of known owes =
      mapped (λ s next. CanRaise m s → Does t m p f i load passed [] s next) (λ s. machine.Begin (record b { stage = s })) (begin_turn b.caller b.stage)
      (both_make (λ (does : Row BeginStage). CanRaise m does.step → Backs t m p f i [] does.step)
      (λ (does : Row BeginStage). IsOutside (past_by p i [] does.step m).now i × KnowsBegin (past_by p i [] does.step m).now (flow_of p f i [] does.step m) i (does.next (found does.step m)))
      (λ (does : Row BeginStage). CanRaise m does.step → Does t m p f i load passed [] does.step (λ word. machine.Begin (record b { stage = does.next word }))) (begin_turn b.caller b.stage)
      (λ does backs next may. record { backs = backs may; leads = λ m' made goes. next })
      (begin_backs t m p f i [] b.caller b.stage owes.unlinked known.1)
      (begin_next t m p f i [] b.caller b.stage table of.shape known.0 known.1))

  -- a poll of a work
  poll_does : (q : Polling) → IsOfSeat t p.now i (machine.Poll q) → KnowsMachine m p f i load passed (machine.Poll q) → Owes p i (doing.Running (machine.Poll q))
      → IfMakes (λ (does : Row Machine). CanRaise m does.step → Does t m p f i load passed [] does.step does.next) (turn_of (machine.Poll q))
  poll_does q of known owes =
      mapped (λ s next. CanRaise m s → Does t m p f i load passed [] s next) (λ at. machine.Poll (polling q.caller at)) (poll_turn q.caller (state_of q))
      (both_make (λ (does : Row (Work × Option Answer)). CanRaise m does.step → Backs t m p f i [] does.step)
      (λ (does : Row (Work × Option Answer)). (m' : Memory) → IsMade does.step m m' → Goes t m p f i [] does.step m' →
      KnowsMachine m' (past_by p i [] does.step m) (flow_of p f i [] does.step m) i (load_after does.step p.now.place load) (passed_after does.step passed) (machine.Poll (polling q.caller (does.next (found does.step m)))))
      (λ (does : Row (Work × Option Answer)). CanRaise m does.step → Does t m p f i load passed [] does.step (λ word. machine.Poll (polling q.caller (does.next word)))) (poll_turn q.caller (state_of q))
      (λ does backs next may. record { backs = backs may; leads = next })
      (poll_backs t m p f i [] q of.shape of.sound.work owes known.1)
      (any_memory (poll_turn q.caller (state_of q)) (λ m'. poll_next t m m' p f i [] q table of.shape of.sound.work known.0 known.1)))
    where
      any_memory : (turn : Turn (Work × Option Answer))
          → ((m' : Memory) → IfMakes (λ (does : Row (Work × Option Answer)). IsMade does.step m m' → Goes t m p f i [] does.step m' → let came = does.next (found does.step m) in
          IsOutside (past_by p i [] does.step m).now i × IfSome (work_left came.0 came.1) (KnowsWork m' (past_by p i [] does.step m) (flow_of p f i [] does.step m) i)) turn)
          → IfMakes (λ (does : Row (Work × Option Answer)). (m' : Memory) → IsMade does.step m m' → Goes t m p f i [] does.step m' →
          KnowsMachine m' (past_by p i [] does.step m) (flow_of p f i [] does.step m) i (load_after does.step p.now.place load) (passed_after does.step passed) (machine.Poll (polling q.caller (does.next (found does.step m))))) turn
      any_memory (Answered a) all = tt
      any_memory (Makes does) all = λ m' made goes. all m' made goes

  -- a sweep
  sweep_does : (s : Sweeping) → IsOfSeat t p.now i (machine.Sweep s) → KnowsMachine m p f i load passed (machine.Sweep s)
      → IfMakes (λ (does : Row Machine). CanRaise m does.step → Does t m p f i load passed [] does.step does.next) (turn_of (machine.Sweep s))
  sweep_does s of known =
      mapped (λ k next. CanRaise m k → Does t m p f i load passed [] k next) (λ at. machine.Sweep (sweeps.goes_to s.asked at)) (sweep_turn s.asked s.along s.stage)
      (both_make (λ (does : Row (SweepAlong × SweepStage)). CanRaise m does.step → Backs t m p f i [] does.step)
      (λ (does : Row (SweepAlong × SweepStage)). (m' : Memory) → IsMade does.step m m' → Goes t m p f i [] does.step m' →
      KnowsSwept m' (past_by p i [] does.step m) (flow_of p f i [] does.step m) i s.asked (does.next (found does.step m)))
      (λ (does : Row (SweepAlong × SweepStage)). CanRaise m does.step → Does t m p f i load passed [] does.step (λ word. machine.Sweep (sweeps.goes_to s.asked (does.next word)))) (sweep_turn s.asked s.along s.stage)
      (λ does backs next may. record { backs = backs may; leads = next })
      (sweep_backs t m p f i [] s.asked s.along s.stage table of.sound known)
      (any_memory (sweep_turn s.asked s.along s.stage) (λ m'. sweep_next t m m' p f i [] s.asked s.along s.stage table of.shape of.number of.sound known)))
    where
      any_memory : (turn : Turn (SweepAlong × SweepStage))
          → ((m' : Memory) → IfMakes (λ (does : Row (SweepAlong × SweepStage)). IsMade does.step m m' → Goes t m p f i [] does.step m' →
          KnowsSwept m' (past_by p i [] does.step m) (flow_of p f i [] does.step m) i s.asked (does.next (found does.step m))) turn)
          → IfMakes (λ (does : Row (SweepAlong × SweepStage)). (m' : Memory) → IsMade does.step m m' → Goes t m p f i [] does.step m' →
          KnowsSwept m' (past_by p i [] does.step m) (flow_of p f i [] does.step m) i s.asked (does.next (found does.step m))) turn
      any_memory (Answered a) all = tt
      any_memory (Makes does) all = λ m' made goes. all m' made goes

  -- the step of any machine
  pub machine_does : (k : Machine) (s : Step) → IsOfSeat t p.now i k → KnowsMachine m p f i load passed k → Owes p i (doing.Running k) → m place.Draws + 1 < 2 ^ 64 → CanRaise m s → plan_of k ≡ plan.Step s
      → Does t m p f i load passed (text_of k) s (λ word. next_in k (turn_of k) word)
  machine_does (machine.Call c w g) s of known owes small may is =
      if_planned (λ made next. Does t m p f i load passed c.asked.text made next) (machine.Call c w g) (turn_of (machine.Call c w g)) s (call_does c w g of known small) is
  machine_does (machine.Begin b) s of known owes small may is =
      if_planned (λ made next. CanRaise m made → Does t m p f i load passed [] made next) (machine.Begin b) (turn_of (machine.Begin b)) s (begin_does b of known owes) is may
  machine_does (machine.Poll q) s of known owes small may is =
      if_planned (λ made next. CanRaise m made → Does t m p f i load passed [] made next) (machine.Poll q) (turn_of (machine.Poll q)) s (poll_does q of known owes) is may
  machine_does (machine.Sweep w) s of known owes small may is =
      if_planned (λ made next. CanRaise m made → Does t m p f i load passed [] made next) (machine.Sweep w) (turn_of (machine.Sweep w)) s (sweep_does w of known) is may
