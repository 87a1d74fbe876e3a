use Rattle.std.proofs.Common.{◌∙◌, sym, ap}
use Rattle.atomic_step.specs.Turn as turn
use Rattle.call_machine.specs.declared.caller.Caller.{Caller}
use Rattle.call_machine.specs.declared.machine.Machine.TheVariants as machine
use Rattle.call_machine.specs.Machine as machines
use Rattle.call_machine.proofs.Machines.{want_is}
use Rattle.call_machine.proofs.machine.Machine.want.Goals as goal

-- src/machine.rt:253:5
pub returns-in-Call : goal.returns-in-Call
returns-in-Call c = record { value = c.want.ensures.value ∙ sym (want_is (machine.Call c.in-Call.call c.in-Call.work c.in-Call.grace)) ∙ sym (ap machines.want_of c.in-Call.is) }

-- src/machine.rt:253:5
pub returns-in-Begin : goal.returns-in-Begin
returns-in-Begin c = record {
  value = c.wanted.ensures.value ∙ ap (λ (caller : Caller). turn.want_of caller.shape c.plan.result) c.caller.ensures.value
      ∙ ap (turn.want_of c.in-Begin.begin.caller.shape) c.plan.ensures.value ∙ sym (want_is (machine.Begin c.in-Begin.begin)) ∙ sym (ap machines.want_of c.in-Begin.is);
}

-- src/machine.rt:253:5
pub returns-in-Sweep : goal.returns-in-Sweep
returns-in-Sweep c = record {
  value = c.wanted-in-Sweep.ensures.value ∙ ap (λ (caller : Caller). turn.want_of caller.shape c.plan-in-Sweep.result) c.caller-in-Sweep.ensures.value
      ∙ ap (turn.want_of c.in-Sweep.sweep.asked.caller.shape) c.plan-in-Sweep.ensures.value ∙ sym (want_is (machine.Sweep c.in-Sweep.sweep)) ∙ sym (ap machines.want_of c.in-Sweep.is);
}
