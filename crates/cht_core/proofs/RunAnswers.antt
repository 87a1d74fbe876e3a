-- A call that is no split never answers with the number of a new seat.
use Rattle.std.proofs.Common.{◌≡◌, ◌≢◌, ℕ, List, Option, Some, None, refl, sym, subst, ◌∙◌}
use Rattle.atomic_step.specs.declared.answer.Answer.TheVariants as answer
use Rattle.atomic_step.specs.declared.plan.Plan.TheVariants as plan
use Rattle.atomic_step.proofs.Choices.{either_way}
use Rattle.call_machine.specs.declared.call.Call.{Call}
use Rattle.call_machine.specs.declared.call.Call.TheVariants as call
use Rattle.call_machine.specs.declared.caller.Caller.{Caller}
use Rattle.call_machine.specs.declared.grace.Grace.{Grace}
use Rattle.call_machine.specs.declared.machine.Machine.{Machine}
use Rattle.call_machine.specs.declared.machine.Machine.TheVariants as machine
use Rattle.call_machine.specs.declared.machine.Own.{Own}
use Rattle.call_machine.specs.declared.stage.Calling.{Calling}
use Rattle.call_machine.specs.declared.stage.Goal.{Goal}
use Rattle.call_machine.specs.declared.stage.Goal.TheVariants as goal
use Rattle.call_machine.specs.declared.work.Work.{Work}
use Rattle.call_machine.specs.BeginCall as calls
use Rattle.call_machine.specs.Machine.{starts, begun_grace_poll, begun_work_poll, plan_of, got_of}
use Rattle.call_machine.specs.Sought.{is_too_long}
use Rattle.call_machine.proofs.Machines.{plan_part, got_part, plan_is, got_is}
use Rattle.cht_core.proofs.RunCallAnswers.{IsNoSplit, StageNoSplit, call_on, call_ends}
use Rattle.cht_core.proofs.RunWorkAnswers.{BeginNoSplit, begin_on, begin_ends, PolledNoSplit, resumes_no, poll_on, poll_ends, SweepNoSplit, sweep_on, sweep_ends}

-- the machine is on its way to another answer
abbrev pub NeverSplits : Machine → Type 0
NeverSplits (machine.Call c w g) = StageNoSplit c.stage
NeverSplits (machine.Begin b) = BeginNoSplit b.stage
NeverSplits (machine.Poll p) = PolledNoSplit (p.work, p.answer)
NeverSplits (machine.Sweep s) = SweepNoSplit s.stage

part_on : (m : Machine) (word : ℕ) → NeverSplits m → NeverSplits (got_part m word)
part_on (machine.Call c w g) word h = call_on c.asked c.along c.stage word h
part_on (machine.Begin b) word h = begin_on b.caller b.stage word h
part_on (machine.Poll p) word h = poll_on p.caller p.work p.answer word h
part_on (machine.Sweep s) word h = sweep_on s.asked s.along s.stage word h

pub never_on : (m : Machine) (word : ℕ) → NeverSplits m → NeverSplits (got_of m word)
never_on m word h = subst NeverSplits (sym (got_is m word)) (part_on m word h)

part_ends : (m : Machine) (number : ℕ) → plan_part m ≡ plan.Answered (answer.Split number) → NeverSplits m → ⊥
part_ends (machine.Call c w g) number is h = call_ends c.asked c.along c.stage number is h
part_ends (machine.Begin b) number is h = begin_ends b.caller b.stage number is h
part_ends (machine.Poll p) number is h = poll_ends p.caller p.work p.answer number is h
part_ends (machine.Sweep s) number is h = sweep_ends s.asked s.along s.stage number is h

pub never_ends : (m : Machine) (number : ℕ) → plan_of m ≡ plan.Answered (answer.Split number) → NeverSplits m → ⊥
never_ends m number is h = part_ends m number (sym (plan_is m) ∙ is) h

walk_never : (caller : Caller) (why : Goal) (text : List ℕ) → StageNoSplit (calls.begun_walk caller why text).stage
walk_never caller why text = either_way (λ (c : Calling). StageNoSplit c.stage) (is_too_long caller.shape text) _ _ (long why) tt
  where
    long : (why : Goal) → IsNoSplit (calls.too_long why)
    long goal.Lookup = tt
    long goal.Intern = tt
    long goal.InternWait = tt

grace_never : (caller : Caller) (g : Option Grace) → NeverSplits (begun_grace_poll caller g)
grace_never caller None = tt
grace_never caller (Some g) = tt

work_never : (caller : Caller) (w : Option Work) → NeverSplits (begun_work_poll caller w)
work_never caller None = tt
work_never caller (Some w) = resumes_no w

-- each call that is no split begins so
pub never_begins : (caller : Caller) (own : Own) (asked : Call) → asked ≢ call.Split → NeverSplits (starts caller own asked)
never_begins caller own call.Split differ = absurd (differ refl)
never_begins caller own (call.Intern text) differ = walk_never caller goal.Intern text.now
never_begins caller own (call.Lookup text) differ = walk_never caller goal.Lookup text.now
never_begins caller own (call.InternWait text) differ = walk_never caller goal.InternWait text.now
never_begins caller own call.PollGrace differ = grace_never caller own.grace
never_begins caller own call.PollWork differ = work_never caller own.work
never_begins caller own (call.TextOf h) differ = tt
never_begins caller own (call.Drop h) differ = tt
never_begins caller own (call.Permanent h) differ = tt
never_begins caller own (call.Kill h) differ = tt
never_begins caller own call.BeginClean differ = tt
never_begins caller own call.BeginGrow differ = tt
never_begins caller own call.BeginShrink differ = tt
never_begins caller own call.BeginGrace differ = tt
never_begins caller own (call.Sweep text) differ = tt
