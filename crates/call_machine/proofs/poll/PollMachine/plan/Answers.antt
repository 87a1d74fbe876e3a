use Rattle.std.proofs.Common.{None}
use Rattle.call_machine.proofs.Machines.{poll_plan_at}
use Rattle.call_machine.proofs.poll.PollMachine.plan.Goals as goal

-- src/poll.rt:58:5
pub returns-in-None-clause-sound : goal.returns-in-None-clause-sound
returns-in-None-clause-sound c =
    let p = c.self.inside in
    rw (← c.self.view_is, c.step.ensures.value p.caller.shape) (poll_plan_at p.caller p.work None c.self.invariant.work)
