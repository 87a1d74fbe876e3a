use Rattle.intern_log.specs.Now.{now_of}
use Rattle.log_check.proofs.Answered.{and_then, and_else, none_left}
use Rattle.log_check.proofs.follow.may_give_resize.Goals as goal

pub returns-then-is_resizing : goal.returns-then-is_resizing
returns-then-is_resizing c = λ table.
    and_then _ ((c.is_resizing.ensures table.min_level).0 c.if-is_resizing.true)
    (none_left (now_of table.min_level c.args.before.now) c.args.seat c.has_unlinked.result (c.has_unlinked.ensures table.min_level))

pub returns-else-is_resizing : goal.returns-else-is_resizing
returns-else-is_resizing c = λ table. and_else _ c.if-is_resizing.false (c.is_resizing.ensures table.min_level)
