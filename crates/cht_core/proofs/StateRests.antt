-- The unfinished work of a seat rests between its polls: as a call begins, after each of its steps, and where it has answered.
use Rattle.std.proofs.Common.{◌≡◌, ℕ, Option, Some, None, refl, sym, subst, ◌∙◌}
use Rattle.std.specs.Prelude.{IfSome}
use Rattle.atomic_step.specs.declared.answer.Answer.{Answer}
use Rattle.atomic_step.specs.declared.answer.Answer.TheVariants as answer
use Rattle.atomic_step.specs.declared.plan.Plan.{Plan}
use Rattle.atomic_step.specs.declared.plan.Plan.TheVariants as plan
use Rattle.call_machine.specs.declared.call.Call.{Call}
use Rattle.call_machine.specs.declared.call.Call.TheVariants as call
use Rattle.call_machine.specs.declared.caller.Caller.{Caller}
use Rattle.call_machine.specs.declared.grace.Grace.{Grace}
use Rattle.call_machine.specs.declared.machine.Machine.{Machine}
use Rattle.call_machine.specs.declared.machine.Machine.TheVariants as machine
use Rattle.call_machine.specs.declared.machine.Own.{Own}
use Rattle.call_machine.specs.declared.work.Work.{Work}
use Rattle.call_machine.specs.declared.work.Work.TheVariants as work
use Rattle.call_machine.specs.Begin.{left_of}
use Rattle.call_machine.specs.Machine.{caller_of, starts, started, begun_grace_poll, begun_work_poll, plan_of, got_of, own_of}
use Rattle.call_machine.specs.Poll.{work_left}
use Rattle.call_machine.proofs.Machines.{plan_part, got_part, plan_is, got_is}
use Rattle.cht_core.specs.declared.seat.Seat.TheVariants as doing
use Rattle.cht_core.specs.declared.table.Table.{Table}
use Rattle.cht_core.specs.Causes.{IsResting, Rests}
use Rattle.cht_core.specs.State.{HasResting, at_rest, seat_after}
use Rattle.cht_core.proofs.CauseRests.{begun_rests, poll_begins_resting, poll_rests}

-- AS A CALL BEGINS

grace_begun : (caller : Caller) (g : Option Grace) → HasResting (doing.Running (begun_grace_poll caller g))
grace_begun caller None = tt
grace_begun caller (Some g) = tt

work_begun : (caller : Caller) (w : Option Work) → IfSome w IsResting → HasResting (doing.Running (begun_work_poll caller w))
work_begun caller None rests = tt
work_begun caller (Some w) rests = poll_begins_resting w rests

starts_resting : (caller : Caller) (own : Own) (c : Call) → IfSome own.work IsResting → HasResting (doing.Running (starts caller own c))
starts_resting caller own call.Split rests = rests
starts_resting caller own (call.Intern text) rests = rests
starts_resting caller own (call.Lookup text) rests = rests
starts_resting caller own (call.InternWait text) rests = rests
starts_resting caller own (call.TextOf h) rests = rests
starts_resting caller own (call.Drop h) rests = rests
starts_resting caller own (call.Permanent h) rests = rests
starts_resting caller own (call.Kill h) rests = rests
starts_resting caller own call.BeginClean rests = tt
starts_resting caller own call.BeginGrow rests = tt
starts_resting caller own call.BeginShrink rests = tt
starts_resting caller own call.BeginGrace rests = tt
starts_resting caller own call.PollGrace rests = grace_begun caller own.grace
starts_resting caller own call.PollWork rests = work_begun caller own.work rests
starts_resting caller own (call.Sweep text) rests = tt

pub rests_begun : (t : Table) (seed : ℕ) (own : Own) (c : Call) → IfSome own.work IsResting → HasResting (doing.Running (started t.kind t.shape seed own c))
rests_begun t seed own c rests = starts_resting (caller_of t.kind t.shape seed own) own c rests

-- AFTER A STEP

part_rests : (m : Machine) (word : ℕ) → HasResting (doing.Running m) → HasResting (doing.Running (got_part m word))
part_rests (machine.Call c w g) word rests = rests
part_rests (machine.Begin b) word rests = tt
part_rests (machine.Poll p) word rests = poll_rests p.caller p.work p.answer word rests
part_rests (machine.Sweep s) word rests = tt

pub rests_on : (m : Machine) (word : ℕ) → HasResting (doing.Running m) → HasResting (doing.Running (got_of m word))
rests_on m word rests = subst (λ (n : Machine). HasResting (doing.Running n)) (sym (got_is m word)) (part_rests m word rests)

-- WHERE IT HAS ANSWERED

left_rests : (caller : Caller) (w : Work) (o : Option Answer) (a : Answer) → plan_part (machine.Poll (record { caller = caller; work = w; answer = o })) ≡ plan.Answered a → Rests w o →
    IfSome (work_left w o) IsResting
left_rests caller (work.Clean c) None a is rests = absurd (cc)
left_rests caller (work.Clean c) (Some (answer.Done worked)) a is rests = tt
left_rests caller (work.Clean c) (Some _) a is rests = rests
left_rests caller (work.Resize r) None a is rests = absurd (cc)
left_rests caller (work.Resize r) (Some (answer.Done worked)) a is rests = tt
left_rests caller (work.Resize r) (Some _) a is rests = rests

own_rests : (k : Machine) (a : Answer) → plan_of k ≡ plan.Answered a → HasResting (doing.Running k) → IfSome (own_of k).work IsResting
own_rests (machine.Call c w g) a is rests = rests
own_rests (machine.Begin b) a is rests = begun_rests b.caller.shape (left_of b.stage)
own_rests (machine.Poll q) a is rests = left_rests q.caller q.work q.answer a (sym (plan_is (machine.Poll q)) ∙ is) rests
own_rests (machine.Sweep s) a is rests = tt

-- the seat of a machine, whether it has answered or not
pub rests_after : (k : Machine) → HasResting (doing.Running k) → HasResting (seat_after k)
rests_after k rests = go (plan_of k) refl
  where
    go : (next : Plan) → plan_of k ≡ next → HasResting (at_rest k next)
    go (plan.Step s) is = rests
    go (plan.Answered a) is = own_rests k a is rests
