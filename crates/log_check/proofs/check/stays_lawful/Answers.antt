use Rattle.log_check.proofs.Longer.{longer_is_lawful, longer_is_not}
use Rattle.log_check.proofs.check.stays_lawful.Goals as goal

pub returns-then-may_follow : goal.returns-then-may_follow
returns-then-may_follow c =
    longer_is_lawful c.args.table.now c.args.before.now c.args.event.now c.is_repeated.result c.requires.lawful (c.may_follow.ensures.0 c.if-may_follow.true) c.is_repeated.ensures

pub returns-else-may_follow : goal.returns-else-may_follow
returns-else-may_follow c = longer_is_not c.args.table.now c.args.before.now c.args.event.now c.may_follow.result c.if-may_follow.false c.may_follow.ensures
