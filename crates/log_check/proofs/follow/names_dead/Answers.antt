use Rattle.log_check.proofs.follow.names_dead.Goals as goal

pub returns-in-Create : goal.returns-in-Create
returns-in-Create c = λ table is. rw c.in-Create.is (c.may_unlink.ensures table c.args.event.now.seat is)
