use Rattle.std.proofs.Common.{refl}
use Rattle.intern_log.specs.Now.{now_of}
use Rattle.log_check.proofs.Quiet.{past_end, live_by_events}
use Rattle.log_check.proofs.follow.are_live.Goals as goal

pub returns : goal.returns
returns c = ((λ yes. live_by_events c.args.table.now.min_level c.args.before.now (c.loop-event.invariant (past_end (now_of c.args.table.now.min_level c.args.before.now) c.loop-event.event-index c.args.before.now c.loop-event-test.false))), (λ live. refl))
