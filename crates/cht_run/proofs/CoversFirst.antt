-- A seat between its calls, and a call that begins, are at no node of a walk.
use Rattle.std.proofs.Common.{◌≡◌, true, cond, List, [], Option, Some, None, ℕ, sym, ap, ◌∙◌}
use Rattle.intern_log.specs.Now.{Now}
use Rattle.atomic_step.specs.declared.count.Change.TheVariants as change
use Rattle.atomic_step.proofs.Choices.{where_it_is}
use Rattle.call_machine.specs.declared.call.Call.{Call}
use Rattle.call_machine.specs.declared.call.Call.TheVariants as call
use Rattle.call_machine.specs.declared.caller.Caller.{Caller}
use Rattle.call_machine.specs.declared.enter.EnterStage.TheVariants as enter
use Rattle.call_machine.specs.declared.find.FindStage.TheVariants as find
use Rattle.call_machine.specs.declared.grace.Grace.{Grace}
use Rattle.call_machine.specs.declared.machine.Machine.TheVariants as machine
use Rattle.call_machine.specs.declared.machine.Own.{Own}
use Rattle.call_machine.specs.declared.node.NodeStage.TheVariants as node
use Rattle.call_machine.specs.declared.stage.Along.{Along}
use Rattle.call_machine.specs.declared.stage.Asked.{Asked}
use Rattle.call_machine.specs.declared.stage.Calling.{Calling}
use Rattle.call_machine.specs.declared.stage.CallStage.{CallStage}
use Rattle.call_machine.specs.declared.stage.CallStage.TheVariants as stage
use Rattle.call_machine.specs.declared.stage.Goal.{Goal}
use Rattle.call_machine.specs.declared.stage.Goal.TheVariants as goal
use Rattle.call_machine.specs.declared.work.Work.{Work}
use Rattle.call_machine.specs.BeginCall.{begins, no_handle, too_long, begun_split, begun_change, begun_read}
use Rattle.call_machine.specs.Calls.{plan_at}
use Rattle.call_machine.specs.Machine.{starts, begun_grace_poll, begun_work_poll}
use Rattle.call_machine.specs.Sought.{is_too_long}
use Rattle.call_machine.proofs.Machines.{plan_is}
use Rattle.cht_core.specs.declared.seat.Seat.{Seat}
use Rattle.cht_core.specs.declared.seat.Seat.TheVariants as doing
use Rattle.cht_core.specs.Memory.{Memory}
use Rattle.cht_run.specs.Begins.{is_over, is_resting}
use Rattle.cht_run.specs.Covers.{StageCovers, MachineCovers}
use Rattle.cht_run.specs.Rule.{SeatCovers}
use Rattle.cht_run.proofs.OffNodes.{IsOff, off_covers}

module _ (m : Memory) (n : Now) (passed : List ℕ) where
  stage_rests : (q : Asked) (w : Along) (s : CallStage) → is_over (plan_at q w s) ≡ true → StageCovers m n q.text passed s
  stage_rests q w (stage.Node (node.Meta x)) rests = absurd (cc)
  stage_rests q w (stage.Node (node.Text x at)) rests = absurd (cc)
  stage_rests q w (stage.Node (node.Count x)) rests = absurd (cc)
  stage_rests q w (stage.Node (node.Link x)) rests = absurd (cc)
  stage_rests q w (stage.Node (node.Take x count)) rests = tt
  stage_rests q w (stage.Answered a) rests = tt
  stage_rests q w (stage.Draw s) rests = tt
  stage_rests q w (stage.Find s) rests = tt
  stage_rests q w (stage.Insert s) rests = tt
  stage_rests q w (stage.Leave s) rests = tt
  stage_rests q w (stage.Handle s) rests = tt
  stage_rests q w (stage.Read s) rests = tt

  -- a call that has answered is at no node
  pub resting_covers : (x : Seat) → is_resting x ≡ true → SeatCovers m n passed x
  resting_covers (doing.Idle own) rests = tt
  resting_covers (doing.Running (machine.Call c None g)) rests = stage_rests c.asked c.along c.stage (sym (ap is_over (plan_is (machine.Call c None g))) ∙ rests)
  resting_covers (doing.Running (machine.Call c (Some k) g)) rests = tt
  resting_covers (doing.Running (machine.Begin b)) rests = tt
  resting_covers (doing.Running (machine.Poll b)) rests = tt
  resting_covers (doing.Running (machine.Sweep b)) rests = tt

  beside_covers : (c : Calling) (k : Option Work) (g : Option Grace) → IsOff c.stage → MachineCovers m n passed (machine.Call c k g)
  beside_covers c None g off = off_covers m n c.asked.text passed c.stage off
  beside_covers c (Some k) g off = tt

  walk_covers : (caller : Caller) (g : Goal) (text : List ℕ) (k : Option Work) (grace : Option Grace) →
      MachineCovers m n passed (machine.Call (cond (is_too_long caller.shape text) (begins caller g [] no_handle (stage.Answered (too_long g))) (begins caller g text no_handle (stage.Find (find.Enter enter.LoadCounter)))) k grace)
  walk_covers caller g text k grace =
      where_it_is (λ (c : Calling). MachineCovers m n passed (machine.Call c k grace)) (is_too_long caller.shape text) (begins caller g [] no_handle (stage.Answered (too_long g)))
      (begins caller g text no_handle (stage.Find (find.Enter enter.LoadCounter)))
      (λ long. beside_covers (begins caller g [] no_handle (stage.Answered (too_long g))) k grace tt)
      (λ fits. beside_covers (begins caller g text no_handle (stage.Find (find.Enter enter.LoadCounter))) k grace tt)

  grace_covers : (caller : Caller) (g : Option Grace) → MachineCovers m n passed (begun_grace_poll caller g)
  grace_covers caller None = tt
  grace_covers caller (Some g) = tt

  work_covers : (caller : Caller) (k : Option Work) → MachineCovers m n passed (begun_work_poll caller k)
  work_covers caller None = tt
  work_covers caller (Some k) = tt

  -- each call at its first stage
  pub covers_begins : (caller : Caller) (own : Own) (c : Call) → MachineCovers m n passed (starts caller own c)
  covers_begins caller own (call.Intern text) = walk_covers caller goal.Intern text.now own.work own.grace
  covers_begins caller own (call.Lookup text) = walk_covers caller goal.Lookup text.now own.work own.grace
  covers_begins caller own (call.InternWait text) = walk_covers caller goal.InternWait text.now own.work own.grace
  covers_begins caller own call.PollGrace = grace_covers caller own.grace
  covers_begins caller own call.PollWork = work_covers caller own.work
  covers_begins caller own call.Split = beside_covers (begun_split caller) own.work own.grace tt
  covers_begins caller own (call.TextOf h) = beside_covers (begun_read caller h) own.work own.grace tt
  covers_begins caller own (call.Drop h) = beside_covers (begun_change caller change.Drop h) own.work own.grace tt
  covers_begins caller own (call.Permanent h) = beside_covers (begun_change caller change.Permanent h) own.work own.grace tt
  covers_begins caller own (call.Kill h) = beside_covers (begun_change caller change.Kill h) own.work own.grace tt
  covers_begins caller own call.BeginClean = tt
  covers_begins caller own call.BeginGrow = tt
  covers_begins caller own call.BeginShrink = tt
  covers_begins caller own call.BeginGrace = tt
  covers_begins caller own (call.Sweep text) = tt
