use Rattle.std.proofs.Common.{None}
use Rattle.schedule_sim.proofs.Goes.{went_on, not_true}
use Rattle.schedule_sim.proofs.Moves.{kept_twice}
use Rattle.schedule_sim.proofs.run.make_steps.Goals as goal

pub loop-preserved : goal.loop-preserved
loop-preserved c = record {
  went = went_on None c.in-Some.number c.loop.counter c.args.state.now c.loop.state c.step_once.new.state c.args.out.now.items c.loop.out.items c.step_once.new.out.items
      c.loop.invariant.went (λ stops. not_true (c.if-stops.ensures.exact.1 stops)) c.in_ok-step_once.ensures.made;
  kept = kept_twice c.args.state.now c.loop.state c.step_once.new.state c.loop.invariant.kept c.in_ok-step_once.ensures.kept;
}
