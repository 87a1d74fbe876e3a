use Rattle.std.proofs.Common.{refl}
use Rattle.schedule_sim.proofs.Made.{step_made, has_log}
use Rattle.schedule_sim.proofs.Moves.{step_kept, step_grows}
use Rattle.schedule_sim.proofs.run.step_once.Goals as goal

pub push_new-requires : goal.push_new-requires
push_new-requires c = record { within = has_log c.args.state.now.log c.step.new.self.log (step_grows _ _ _ _ _ c.in-Ok.ensures.value) _ _ c.log-before.ensures.value c.log.ensures.value }

pub returns-clause-made : goal.returns-clause-made
returns-clause-made c = step_made c.args.state.now c.step.new.self c.args.seat c.in-Ok.stepped c.in-Ok.ensures.value _ c.log-before.result.now _ refl c.log-before.ensures.value c.log.ensures.value
    c.args.out.now.items c.push_new.new.out.items _ c.in_ok-push_new.ensures.text c.in_ok-push_stepped.ensures.text

pub returns-clause-kept : goal.returns-clause-kept
returns-clause-kept c = step_kept c.args.state.now c.step.new.self c.args.seat _ c.in-Ok.stepped c.in-Ok.ensures.value c.step.ensures.lawful
