-- A call of a work or a grace that has answered leaves its seat at rest.
use Rattle.std.proofs.Common.{◌≡◌, ℕ, true, List, [], ◌∷◌, Option, Some, None, refl, sym, ap, subst, ◌∙◌}
use Rattle.atomic_step.specs.declared.answer.Answer.{Answer}
use Rattle.atomic_step.specs.declared.plan.Plan.TheVariants as plan
use Rattle.atomic_step.specs.Run.{after_words}
use Rattle.call_machine.specs.declared.call.Call.{Call}
use Rattle.call_machine.specs.declared.call.Call.TheVariants as call
use Rattle.call_machine.specs.declared.caller.Caller.{Caller}
use Rattle.call_machine.specs.declared.grace.Grace.{Grace}
use Rattle.call_machine.specs.declared.machine.Machine.{Machine}
use Rattle.call_machine.specs.declared.machine.Machine.TheVariants as machine
use Rattle.call_machine.specs.declared.machine.Own.{Own}
use Rattle.call_machine.specs.declared.work.Work.{Work}
use Rattle.call_machine.specs.Machine.{caller_of, starts, begun_grace_poll, begun_work_poll, plan_of, got_of, own_of, number_of, IsOfWork, IsSameMachine}
use Rattle.call_machine.specs.SoundMachine.{IsSoundOwn}
use Rattle.call_machine.specs.WholeMachine.{machines}
use Rattle.call_machine.proofs.Machines.{same_law, left_law}
use Rattle.cht_run.specs.declared.sight.Origin.{Origin}
use Rattle.cht_run.specs.declared.sight.Sight.{Sight}
use Rattle.cht_run.specs.Begins.{own_at, is_over, is_resting, first_of}
use Rattle.cht_run.specs.History.{HasSeen}
use Rattle.cht_run.specs.Runs.{Ran}
use Rattle.cht_run.proofs.Runs.{of_work_on}

-- THE SLOT FROM WHICH A SEAT LOOKS FOR A FREE ONE

cursor_same : (a b : Machine) → IsOfWork a → IsSameMachine a b → (own_of b).cursor ≡ (own_of a).cursor
cursor_same (machine.Call c w g) b is same = absurd is
cursor_same (machine.Begin x) (machine.Begin y) is same = ap (λ (c : Caller). c.cursor) same
cursor_same (machine.Poll x) (machine.Poll y) is same = ap (λ (c : Caller). c.cursor) same.0
cursor_same (machine.Sweep x) (machine.Sweep y) is same = ap (λ q. q.caller.cursor) same
cursor_same (machine.Begin x) (machine.Call c w g) is same = absurd same
cursor_same (machine.Begin x) (machine.Poll y) is same = absurd same
cursor_same (machine.Begin x) (machine.Sweep y) is same = absurd same
cursor_same (machine.Poll x) (machine.Call c w g) is same = absurd same
cursor_same (machine.Poll x) (machine.Begin y) is same = absurd same
cursor_same (machine.Poll x) (machine.Sweep y) is same = absurd same
cursor_same (machine.Sweep x) (machine.Call c w g) is same = absurd same
cursor_same (machine.Sweep x) (machine.Begin y) is same = absurd same
cursor_same (machine.Sweep x) (machine.Poll y) is same = absurd same

cursor_still : (m : Machine) (words : List ℕ) → IsOfWork m → (own_of (after_words machines m words)).cursor ≡ (own_of m).cursor
cursor_still m [] is = refl
cursor_still m (word ∷ words) is = cursor_still (got_of m word) words (of_work_on m word is) ∙ cursor_same m (got_of m word) is (same_law m word)

grace_cursor : (caller : Caller) (g : Option Grace) → (own_of (begun_grace_poll caller g)).cursor ≡ caller.cursor
grace_cursor caller None = refl
grace_cursor caller (Some g) = refl

work_cursor : (caller : Caller) (w : Option Work) → (own_of (begun_work_poll caller w)).cursor ≡ caller.cursor
work_cursor caller None = refl
work_cursor caller (Some w) = refl

first_cursor : (caller : Caller) (own : Own) (c : Call) → IsOfWork (starts caller own c) → (own_of (starts caller own c)).cursor ≡ caller.cursor
first_cursor caller own call.PollGrace is = grace_cursor caller own.grace
first_cursor caller own call.PollWork is = work_cursor caller own.work
first_cursor caller own call.BeginClean is = refl
first_cursor caller own call.BeginGrow is = refl
first_cursor caller own call.BeginShrink is = refl
first_cursor caller own call.BeginGrace is = refl
first_cursor caller own (call.Sweep text) is = refl
first_cursor caller own call.Split is = absurd is
first_cursor caller own (call.Intern text) is = absurd is
first_cursor caller own (call.Lookup text) is = absurd is
first_cursor caller own (call.InternWait text) is = absurd is
first_cursor caller own (call.TextOf h) is = absurd is
first_cursor caller own (call.Drop h) is = absurd is
first_cursor caller own (call.Permanent h) is = absurd is
first_cursor caller own (call.Kill h) is = absurd is

-- THE SEAT AFTERWARDS

pub own_number : (m : Machine) → (own_of m).number ≡ number_of m
own_number (machine.Call c w g) = refl
own_number (machine.Begin b) = refl
own_number (machine.Poll p) = refl
own_number (machine.Sweep s) = refl

-- a seat whose call has answered
pub record HasRested (b : Sight) (v : Sight) (m : Machine) : Type 0 where
  pub rests : is_resting v.seat ≡ true
  pub own_is : own_at v.seat ≡ own_of m
  pub number : (own_at v.seat).number ≡ b.number
  pub cursor : (own_at v.seat).cursor ≡ (own_at b.seat).cursor
  pub sees : HasSeen v.origin.table v.history
  pub sound : IsSoundOwn b.origin.table.shape (own_of m)

pub has_rested : (b : Sight) (c : Call) (v : Sight) (m : Machine) (a : Answer) → Ran b c v m → IsOfWork (first_of b c) → plan_of m ≡ plan.Answered a → HasRested b v m
has_rested b c v m a ran is answered =
    let own : own_at v.seat ≡ own_of m = ap own_at ran.went.is in
    record {
      rests = ap is_resting ran.went.is ∙ ap is_over answered;
      own_is = own;
      number = ap (λ (o : Own). o.number) own ∙ own_number m ∙ ran.went.sound.number_is;
      sees = subst (λ (o : Origin). HasSeen o.table v.history) (sym ran.went.stays.origin) ran.went.sees;
      cursor = ap (λ (o : Own). o.cursor) own ∙ ap (λ (x : Machine). (own_of x).cursor) (sym ran.leads) ∙ cursor_still (first_of b c) ran.words is
          ∙ first_cursor (caller_of b.origin.table.kind b.origin.table.shape b.origin.seed (own_at b.seat)) (own_at b.seat) c is;
      sound = subst (λ shape. IsSoundOwn shape (own_of m)) ran.went.sound.shape (left_law m ran.went.sound.sound);
    }
