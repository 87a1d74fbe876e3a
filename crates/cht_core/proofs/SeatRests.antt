-- A seat whose call has answered may be between its calls: what the call leaves it, it knows and owes.
use Rattle.std.proofs.Common.{◌≡◌, ℕ, ◌+◌, ◌-◌, ◌<◌, ◌≤◌, List, Option, Some, None, refl, sym, ap, subst, ◌∙◌, arith}
use Rattle.table_shape.specs.declared.shape.Shape.{Shape}
use Rattle.atomic_step.specs.declared.answer.Answer.{Answer}
use Rattle.atomic_step.specs.declared.plan.Plan.TheVariants as plan
use Rattle.atomic_step.specs.Turn.{plan_in}
use Rattle.call_machine.specs.declared.begin.BeginStage.{BeginStage}
use Rattle.call_machine.specs.declared.begin.BeginStage.TheVariants as begin
use Rattle.call_machine.specs.declared.begin.Left.{Left}
use Rattle.call_machine.specs.declared.begin.Left.TheVariants as left
use Rattle.call_machine.specs.declared.caller.Caller.{Caller}
use Rattle.call_machine.specs.declared.machine.Machine.{Machine}
use Rattle.call_machine.specs.declared.machine.Machine.TheVariants as machine
use Rattle.call_machine.specs.declared.machine.Own.{Own}
use Rattle.call_machine.specs.declared.stage.Along.{Along}
use Rattle.call_machine.specs.declared.stage.Asked.{Asked}
use Rattle.call_machine.specs.declared.stage.CallStage.{CallStage}
use Rattle.call_machine.specs.declared.stage.CallStage.TheVariants as stage
use Rattle.call_machine.specs.declared.sweep.SweepAlong.{SweepAlong}
use Rattle.call_machine.specs.declared.sweep.SweepAsked.{SweepAsked}
use Rattle.call_machine.specs.declared.sweep.SweepStage.{SweepStage}
use Rattle.call_machine.specs.declared.sweep.SweepStage.TheVariants as sweep
use Rattle.call_machine.specs.declared.work.Work.{Work}
use Rattle.call_machine.specs.Begin.{begin_turn, left_of}
use Rattle.call_machine.specs.Calls.{turn_at}
use Rattle.call_machine.specs.Machine.{number_of, plan_of, own_of, own_begun}
use Rattle.call_machine.specs.SoundMachine.{IsSoundOwn}
use Rattle.call_machine.specs.Sweep.{sweep_turn}
use Rattle.call_machine.specs.Work.{begun_work}
use Rattle.call_machine.proofs.Machines.{plan_is, left_law}
use Rattle.call_machine.specs.declared.resize.Direction.TheVariants.{Grow, Shrink}
use Rattle.call_machine.specs.SoundBegin.{IsSoundLeft}
use Rattle.cht_core.specs.KnowsResize.{Resizing, NoHead}
use Rattle.cht_core.specs.Stage.{Quiet}
use Rattle.call_machine.specs.SoundMachine.{IsSoundMachine}
use Rattle.cht_core.specs.declared.seat.Seat.{Seat}
use Rattle.cht_core.specs.declared.seat.Seat.TheVariants as doing
use Rattle.cht_core.specs.declared.table.Table.{Table}
use Rattle.cht_core.specs.Begins.{MayRest, idle_view}
use Rattle.cht_core.specs.Bounds.{raised_by, raises_left, raises_work}
use Rattle.cht_core.specs.Flow.{Flow}
use Rattle.cht_core.specs.Graces.{GrowsWithFew}
use Rattle.cht_core.specs.Passes.{PassesFind}
use Rattle.cht_core.specs.KnowsCall.{KnowsStage}
use Rattle.cht_core.specs.KnowsWork.{KnowsLeft, KnowsBegin, KnowsSweep}
use Rattle.cht_core.specs.Looks.{LooksAtFew}
use Rattle.cht_core.specs.Memory.{Memory}
use Rattle.cht_core.specs.Owes.{Owes}
use Rattle.cht_core.specs.Past.{Past, past_of}
use Rattle.cht_core.specs.Search.{IsOutside}
use Rattle.cht_core.specs.View.{IsOfSeat, IsOwnOf, KnowsOwn, KnowsMachine, Knows}
use Rattle.cht_core.proofs.FewSeats.{rests_few}
use Rattle.cht_core.proofs.LooksStay.{rests_looks}
use Rattle.cht_core.proofs.FoundSeats.{rests_find}
use Rattle.cht_core.proofs.OwesRests.{owes_at_rest}
use Rattle.cht_core.proofs.SeatMoves.{IsGoodPoll, IsNoMore, owed_by, moved_inv}

-- a machine answers at its last stage alone
call_answered : (q : Asked) (w : Along) (s : CallStage) (a : Answer) → plan_in (turn_at q w s) ≡ plan.Answered a → s ≡ stage.Answered a
call_answered q w (stage.Answered b) a is = cc
call_answered q w (stage.Draw s) a is = absurd (cc)
call_answered q w (stage.Find s) a is = absurd (cc)
call_answered q w (stage.Node s) a is = absurd (cc)
call_answered q w (stage.Insert s) a is = absurd (cc)
call_answered q w (stage.Leave s) a is = absurd (cc)
call_answered q w (stage.Handle s) a is = absurd (cc)
call_answered q w (stage.Read s) a is = absurd (cc)

begin_answered : (caller : Caller) (s : BeginStage) (a : Answer) → plan_in (begin_turn caller s) ≡ plan.Answered a → (l : Left) × (s ≡ begin.Answered a l)
begin_answered caller (begin.Answered b l) a is = let same : b ≡ a = cc in (l, ap (λ x. begin.Answered x l) same)
begin_answered caller (begin.LoadCounter t) a is = absurd (cc)
begin_answered caller (begin.TakeResizeLock t) a is = absurd (cc)
begin_answered caller (begin.LoadLevel d) a is = absurd (cc)
begin_answered caller (begin.GiveResizeLock b) a is = absurd (cc)
begin_answered caller (begin.Grace g s) a is = absurd (cc)

sweep_answered : (q : SweepAsked) (w : SweepAlong) (s : SweepStage) (a : Answer) → plan_in (sweep_turn q w s) ≡ plan.Answered a → s ≡ sweep.Answered a
sweep_answered q w (sweep.Answered b) a is = cc
sweep_answered q w sweep.Check a is = absurd (cc)
sweep_answered q w (sweep.Find s) a is = absurd (cc)
sweep_answered q w sweep.Lock a is = absurd (cc)
sweep_answered q w (sweep.Close why) a is = absurd (cc)
sweep_answered q w (sweep.Pass s) a is = absurd (cc)
sweep_answered q w sweep.UnlockHead a is = absurd (cc)
sweep_answered q w (sweep.Grace s) a is = absurd (cc)
sweep_answered q w (sweep.Free s) a is = absurd (cc)

module _ (m : Memory) (p : Past) (f : Flow) (i load : ℕ) (passed : List ℕ) (a : Answer) where
  -- what a call that begins a work or a grace leaves its seat, the seat knows
  begun_knows : (caller : Caller) (l : Left) → IsSoundLeft caller.shape l → IsOutside p.now i → KnowsLeft p.now f i l → KnowsOwn m p f i (own_begun caller l)
  begun_knows caller left.Nothing sound outside known = (outside, tt, tt)
  begun_knows caller left.Clean sound outside known = (outside, (known, refl), tt)
  begun_knows caller (left.Resize Grow level) sound outside known = (outside, known, tt)
  begun_knows caller (left.Resize Shrink level) sound outside known =
      let more : caller.shape.min_level < level = sound.0 in
      let below : level ≡ (level - 1) + 1 = omega (arith, more) in
      (outside, (level - 1, below, subst (λ (l : ℕ). Resizing p.now f i l Quiet NoHead) below known), tt)
  begun_knows caller (left.Grace g) sound outside known = (outside, tt, known)

  -- of a machine that has answered its seat knows what it has of its own
  pub rests_knows : (k : Machine) → IsSoundMachine k → plan_of k ≡ plan.Answered a → KnowsMachine m p f i load passed k → KnowsOwn m p f i (own_of k)
  rests_knows (machine.Call c w g) sound is known =
      let at : c.stage ≡ stage.Answered a = call_answered c.asked c.along c.stage a (sym (plan_is (machine.Call c w g)) ∙ is) in
      (subst (λ (s : CallStage). KnowsStage m p f i load passed c.asked c.along s) at known.0.0, known.1, known.2)
  rests_knows (machine.Begin b) sound is known =
      let (l, at) = begin_answered b.caller b.stage a (sym (plan_is (machine.Begin b)) ∙ is) in
      subst (λ (s : BeginStage). KnowsOwn m p f i (own_begun b.caller (left_of s))) (sym at)
      (begun_knows b.caller l (subst (λ (s : BeginStage). IsSoundLeft b.caller.shape (left_of s)) at sound.left) known.0 (subst (λ (s : BeginStage). KnowsBegin p.now f i s) at known.1))
  rests_knows (machine.Poll q) sound is known = (known.0, known.1, tt)
  rests_knows (machine.Sweep s) sound is known =
      let at : s.stage ≡ sweep.Answered a = sweep_answered s.asked s.along s.stage a (sym (plan_is (machine.Sweep s)) ∙ is) in
      (subst (λ (x : SweepStage). KnowsSweep m p f i s.asked s.along x) at known, tt, tt)

  -- between its calls a seat makes no poll
  idle_polls : (own : Own) → IsGoodPoll (doing.Idle own)
  idle_polls own q running unanswered = absurd (cc)

  -- a work that has begun has raised the counter not yet
  begun_raises : (caller : Caller) (l : Left) → KnowsLeft p.now f i l → raises_work (begun_work caller.shape l) ≤ raises_left l
  begun_raises caller left.Nothing known = omega arith
  begun_raises caller left.Clean known = omega arith
  begun_raises caller (left.Resize d level) known = omega arith
  begun_raises caller (left.Grace g) known = omega arith

  abbrev raised_of : Option Work → ℕ
  raised_of None = 0
  raised_of (Some x) = raised_by x

  begun_unraised : (caller : Caller) (l : Left) (w : Work) → begun_work caller.shape l ≡ Some w → 0 < raised_by w → ⊥
  begun_unraised caller left.Nothing w is raised = absurd (cc)
  begun_unraised caller left.Clean w is raised = let none : 0 ≡ raised_by w = ap raised_of is in omega (arith, none, raised)
  begun_unraised caller (left.Resize d level) w is raised = let none : 0 ≡ raised_by w = ap raised_of is in omega (arith, none, raised)
  begun_unraised caller (left.Grace g) w is raised = absurd (cc)

  -- a machine that has answered leaves its seat no more to draw and to raise than it had
  rests_no_more : (k : Machine) → plan_of k ≡ plan.Answered a → KnowsMachine m p f i load passed k → IsNoMore (doing.Running k) (doing.Idle (own_of k))
  rests_no_more (machine.Call c w g) is known = record {
    draws = omega arith;
    raises = omega arith;
    works = λ u at raised. (u, at, refl);
    polls = idle_polls (own_of (machine.Call c w g));
  }
  rests_no_more (machine.Begin b) is known =
      let (l, at) = begin_answered b.caller b.stage a (sym (plan_is (machine.Begin b)) ∙ is) in
      subst (λ (s : BeginStage). IsNoMore (doing.Running (machine.Begin (record b { stage = s }))) (doing.Idle (own_begun b.caller (left_of s)))) (sym at) (record {
        draws = omega arith;
        raises = begun_raises b.caller l (subst (λ (s : BeginStage). KnowsBegin p.now f i s) at known.1);
        works = λ u begun raised. absurd (begun_unraised b.caller l u begun raised);
        polls = idle_polls (own_begun b.caller l);
      })
  rests_no_more (machine.Poll q) is known = record {
    draws = omega arith;
    raises = omega arith;
    works = λ u at raised. (u, at, refl);
    polls = idle_polls (own_of (machine.Poll q));
  }
  rests_no_more (machine.Sweep s) is known = record {
    draws = omega arith;
    raises = omega arith;
    works = λ u at raised. absurd (cc);
    polls = idle_polls (own_of (machine.Sweep s));
  }

  -- what a machine of a seat leaves it is of the seat
  rests_own : (t : Table) (k : Machine) → IsOfSeat t p.now i k → IsOwnOf t i (own_of k)
  rests_own t k of = record {
    number = number_left k ∙ of.number;
    sound = subst (λ (shape : Shape). IsSoundOwn shape (own_of k)) of.shape (left_law k of.sound);
    single = of.single;
  }
    where
      number_left : (k : Machine) → (own_of k).number ≡ number_of k
      number_left (machine.Call c w g) = refl
      number_left (machine.Begin b) = refl
      number_left (machine.Poll q) = refl
      number_left (machine.Sweep s) = refl

-- a seat whose call has answered may be between its calls
pub may_rest : MayRest
may_rest t m seat seat' log i v k a inv at running answered moves =
    let p : Past = past_of t.shape.min_level log in
    let known : IsOfSeat t p.now i k × KnowsMachine m p inv.flow i v.load v.passed k =
    subst (λ (s : Seat). Knows t m p inv.flow i (record v { seat = s })) running (inv.knows i v at) in
    let owed : Owes p i (doing.Running k) = subst (Owes p i) running (owed_by t m seat log i v inv at) in
    let less : IsNoMore v.seat (doing.Idle (own_of k)) =
    subst (λ (s : Seat). IsNoMore s (doing.Idle (own_of k))) (sym running) (rests_no_more m p inv.flow i v.load v.passed a k answered known.1) in
    moved_inv t m seat seat' log i v (idle_view v (own_of k)) inv at moves refl
    (rests_own m p inv.flow i v.load v.passed a t k known.0, rests_knows m p inv.flow i v.load v.passed a k known.0.sound answered known.1)
    (owes_at_rest p i k a known.0.sound owed answered)
    less (rests_few p.now log inv.flow k (subst (GrowsWithFew p.now log inv.flow) running (inv.graces i v at)))
    (rests_looks t.shape.slots inv.flow k (subst (LooksAtFew t.shape.slots inv.flow) running (inv.looks i v at)))
    (rests_find t p.now log inv.flow i k (subst (PassesFind t p.now log inv.flow i) running (inv.passes i v at)))
