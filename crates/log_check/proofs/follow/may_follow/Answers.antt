use Rattle.log_check.proofs.follow.may_follow.Goals as goal

pub returns-in-Claim : goal.returns-in-Claim
returns-in-Claim c = rw c.in-Claim.is (c.may_claim.ensures c.args.table.now c.args.event.now.seat)

pub returns-in-Unlink : goal.returns-in-Unlink
returns-in-Unlink c = rw c.in-Unlink.is (c.may_unlink.ensures c.args.table.now c.args.event.now.seat c.requires)

pub returns-in-Close : goal.returns-in-Close
returns-in-Close c = rw c.in-Close.is (c.may_close.ensures c.args.table.now)

pub returns-in-Lock : goal.returns-in-Lock
returns-in-Lock c = rw c.in-Lock.is (c.may_lock.ensures c.args.table.now c.args.event.now.seat)

pub returns-in-ResizeTaken : goal.returns-in-ResizeTaken
returns-in-ResizeTaken c = rw c.in-ResizeTaken.is (c.may_take_resize.ensures c.args.table.now c.args.event.now.seat)

pub returns-in-ResizeGiven : goal.returns-in-ResizeGiven
returns-in-ResizeGiven c = rw c.in-ResizeGiven.is (c.may_give_resize.ensures c.args.table.now)
