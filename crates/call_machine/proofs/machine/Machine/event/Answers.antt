use Rattle.std.proofs.Common.{◌≡◌, ◌∙◌, [], Option, sym, ap, subst}
use Rattle.std.specs.Prelude.{MatchResult}
use Rattle.intern_log.specs.declared.event.What.{What}
use Rattle.atomic_step.specs.declared.plan.Plan.{Plan}
use Rattle.atomic_step.specs.Event.{NamesItsText}
use Rattle.atomic_step.specs.Turn.{event_by}
use Rattle.call_machine.specs.declared.machine.Machine.{Machine}
use Rattle.call_machine.specs.declared.machine.Machine.TheVariants as machine
use Rattle.call_machine.specs.Machine.{event_of}
use Rattle.call_machine.proofs.Machines.{event_is}
use Rattle.call_machine.proofs.machine.Machine.event.Goals as goal

-- src/machine.rt:267:5
pub returns-in-Begin : goal.returns-in-Begin
returns-in-Begin c = record {
  value = subst (λ (e : Option What). MatchResult c.event_without_text.result (λ event. event ≡ e) (λ x. NamesItsText e))
      (ap (λ (p : Plan). event_by [] p c.args.word) c.plan.ensures.value ∙ sym (event_is (machine.Begin c.in-Begin.begin) c.args.word) ∙ sym (ap (λ (m : Machine). event_of m c.args.word) c.in-Begin.is))
      c.event_without_text.ensures.value;
}

-- src/machine.rt:267:5
pub returns-in-Sweep : goal.returns-in-Sweep
returns-in-Sweep c = record {
  value = subst (λ (e : Option What). MatchResult c.event_without_text-in-Sweep.result (λ event. event ≡ e) (λ x. NamesItsText e))
      (ap (λ (p : Plan). event_by [] p c.args.word) c.plan-in-Sweep.ensures.value ∙ sym (event_is (machine.Sweep c.in-Sweep.sweep) c.args.word) ∙ sym (ap (λ (m : Machine). event_of m c.args.word) c.in-Sweep.is))
      c.event_without_text-in-Sweep.ensures.value;
}
