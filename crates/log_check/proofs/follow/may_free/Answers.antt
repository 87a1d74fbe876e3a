use Rattle.intern_log.specs.Now.{now_of}
use Rattle.log_check.proofs.Answered.{unlinked_may_be_freed}
use Rattle.log_check.proofs.follow.may_free.Goals as goal

pub returns-then-owner-seat : goal.returns-then-owner-seat
returns-then-owner-seat c = λ table.
    unlinked_may_be_freed (now_of table.min_level c.args.before.now) c.args.seat c.in-Unlinked.owner c.in-Unlinked.place c.is_graced_since.result ((now_of table.min_level c.args.before.now).slot c.args.slot)
    (c.in-Unlinked.ensures table.min_level) c.if-owner-seat.true (c.is_graced_since.ensures table.min_level)
