use Rattle.log_check.proofs.Answered.{and_then_three, and_else_three}
use Rattle.log_check.proofs.follow.may_set_level.Goals as goal

pub returns-then-is_resizing : goal.returns-then-is_resizing
returns-then-is_resizing c = and_then_three _ ((c.is_resizing.ensures c.args.table.now.min_level).0 c.if-is_resizing.true) c.is_next_level.ensures

pub returns-else-is_resizing : goal.returns-else-is_resizing
returns-else-is_resizing c = and_else_three _ c.if-is_resizing.false (c.is_resizing.ensures c.args.table.now.min_level)
