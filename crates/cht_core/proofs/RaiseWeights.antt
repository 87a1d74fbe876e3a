-- A machine that raises the counter might do so, or has a work that raised it to less than 2^63.
use Rattle.std.proofs.Common.{◌≡◌, ◌≢◌, ℕ, ◌^◌, ◌<◌, ◌⊎◌, Bool, true, false, Option, Some, None, IfSome, inl, inr, refl, sym, ap, subst, ◌∙◌, arith}
use Rattle.std.specs.Prelude.{◌==◌, if◌then◌else◌}
use Rattle.std.proofs.lemmas.Bool.{eqb-false}
use Rattle.atomic_step.specs.declared.answer.Answer.{Answer}
use Rattle.atomic_step.specs.declared.plan.Plan.TheVariants as plan
use Rattle.atomic_step.specs.declared.step.Step.{Step}
use Rattle.atomic_step.specs.declared.step.Step.TheVariants as step
use Rattle.atomic_step.specs.Turn.{plan_in, event_by}
use Rattle.call_machine.specs.declared.begin.BeginStage.{BeginStage}
use Rattle.call_machine.specs.declared.begin.BeginStage.TheVariants as begin
use Rattle.call_machine.specs.declared.begin.Beginning.{Beginning}
use Rattle.call_machine.specs.declared.caller.Caller.{Caller}
use Rattle.call_machine.specs.declared.grace.Grace.{Grace}
use Rattle.call_machine.specs.declared.grace.GraceStage.TheVariants.{RaiseCounter, LoadSection}
use Rattle.call_machine.specs.declared.machine.Machine.TheVariants as machine
use Rattle.call_machine.specs.declared.stage.Calling.{Calling}
use Rattle.call_machine.specs.declared.sweep.SweepAlong.{SweepAlong}
use Rattle.call_machine.specs.declared.sweep.SweepAsked.{SweepAsked}
use Rattle.call_machine.specs.declared.sweep.SweepStage.{SweepStage}
use Rattle.call_machine.specs.declared.sweep.SweepStage.TheVariants as sweep
use Rattle.call_machine.specs.declared.work.Work.{Work}
use Rattle.call_machine.specs.declared.work.Work.TheVariants as work
use Rattle.call_machine.specs.Begin.{begin_turn}
use Rattle.call_machine.specs.CallEvents.{IsOfCall}
use Rattle.call_machine.specs.Calls.{goes_to, turn_at}
use Rattle.call_machine.specs.Machine.{plan_of}
use Rattle.call_machine.specs.Poll.{poll_turn, polling, work_left}
use Rattle.call_machine.specs.Sweep.{sweep_turn}
use Rattle.call_machine.specs.Sweep as sweeps
use Rattle.call_machine.specs.Work.{resumes}
use Rattle.call_machine.proofs.CallEvents.{no_work_law}
use Rattle.cht_core.specs.declared.seat.Seat.{Seat}
use Rattle.cht_core.specs.declared.seat.Seat.TheVariants as doing
use Rattle.cht_core.specs.Bounds.{raised_by, raises_in, work_of}
use Rattle.cht_core.specs.Flow.{Flow}
use Rattle.cht_core.specs.KnowsWork.{KnowsWork}
use Rattle.cht_core.specs.Memory.{Memory}
use Rattle.cht_core.specs.Past.{Past}
use Rattle.cht_core.proofs.BoundSteps.{free_plain}
use Rattle.cht_core.proofs.PollBounds.{raises_below}
use Rattle.cht_core.proofs.ResizeBounds.{resize_raises_below}
use Rattle.cht_core.proofs.Turns.{IfMakes, mapped_plan}

-- no try call raises the counter
pub calls_raise_not : (c : Calling) (k : Option Work) (g : Option Grace) (s : Step) → plan_of (machine.Call c k g) ≡ plan.Step s → s ≢ step.RaiseCounter
calls_raise_not c k g s planned raises =
    let plain : plan_in (turn_at c.asked c.along c.stage) ≡ plan.Step step.RaiseCounter =
    sym (mapped_plan (λ at. machine.Call (goes_to c.asked at) k g) (turn_at c.asked c.along c.stage)) ∙ planned ∙ ap plan.Step raises in
    subst (λ x. IfSome (event_by c.asked.text x 0) IsOfCall) plain (no_work_law c 0)

-- the seat might raise the counter once, or has a work that raised it to less than 2^63
abbrev pub HasWeight : Seat → Type 0
HasWeight s = (raises_in s ≡ 1) ⊎ ((w : Work) × (work_of s ≡ Some w) × (0 < raised_by w) × (raised_by w < 2 ^ 63))

-- where a call that begins raises it
pub begin_weight : (b : Beginning) (s : BeginStage) → IfMakes (λ does. does.step ≡ step.RaiseCounter → HasWeight (doing.Running (machine.Begin (record b { stage = s })))) (begin_turn b.caller s)
begin_weight b (begin.LoadCounter t) = λ is. absurd (cc)
begin_weight b (begin.TakeResizeLock t) = λ is. absurd (cc)
begin_weight b (begin.LoadLevel d) = λ is. absurd (cc)
begin_weight b (begin.GiveResizeLock a) = λ is. absurd (cc)
begin_weight b (begin.Grace g RaiseCounter) = λ is. inl refl
begin_weight b (begin.Grace g LoadSection) = λ is. absurd (cc)
begin_weight b (begin.Answered a l) = tt

-- where a sweep does
pub sweep_weight : (q : SweepAsked) (w : SweepAlong) (s : SweepStage)
    → IfMakes (λ does. does.step ≡ step.RaiseCounter → HasWeight (doing.Running (machine.Sweep (sweeps.goes_to q (w, s))))) (sweep_turn q w s)
sweep_weight q w sweep.Check = λ is. absurd (cc)
sweep_weight q w (sweep.Find s) = λ is. inl refl
sweep_weight q w sweep.Lock = λ is. inl refl
sweep_weight q w (sweep.Close why) = λ is. inl refl
sweep_weight q w (sweep.Pass s) = λ is. inl refl
sweep_weight q w sweep.UnlockHead = λ is. inl refl
sweep_weight q w (sweep.Grace RaiseCounter) = λ is. inl refl
sweep_weight q w (sweep.Grace LoadSection) = λ is. absurd (cc)
sweep_weight q w (sweep.Free s) = λ is. absurd ((free_plain w.cleaning s).0 is)
sweep_weight q w (sweep.Answered a) = tt

-- where the poll of a work does
work_weight : (caller : Caller) (w : Work) → raised_by w < 2 ^ 63 → HasWeight (doing.Running (machine.Poll (polling caller (w, None))))
work_weight caller w low = by_test (raised_by w == 0) refl
  where
    by_test : (none : Bool) → (raised_by w == 0) ≡ none → HasWeight (doing.Running (machine.Poll (polling caller (w, None))))
    by_test true is = inl (ap (λ b. if b then 1 else 0) is)
    by_test false is = let some : raised_by w ≢ 0 = eqb-false (raised_by w) 0 is in inr (w, refl, omega (arith, some), low)

-- where a poll does
pub poll_weight : (m : Memory) (p : Past) (f : Flow) (i : ℕ) (caller : Caller) (w : Work) (a : Option Answer) → IfSome (work_left w a) (KnowsWork m p f i) → (a ≡ None → (resumes w).1 ≡ None)
    → IfMakes (λ does. does.step ≡ step.RaiseCounter → HasWeight (doing.Running (machine.Poll (polling caller (w, a))))) (poll_turn caller (w, a))
poll_weight m p f i caller w (Some a) known low = tt
poll_weight m p f i caller (work.Clean c) None known low = λ is. work_weight caller (work.Clean c) (raises_below caller.shape c.along c.stage (low refl) is)
poll_weight m p f i caller (work.Resize r) None known low = λ is. work_weight caller (work.Resize r) (resize_raises_below caller.shape r.direction r.along r.stage (low refl) is)
