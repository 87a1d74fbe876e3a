use Rattle.intern_log.proofs.replay.Replay.apply.Goals as goal

pub returns-in-Take-clause-ok : goal.returns-in-Take-clause-ok
returns-in-Take-clause-ok c = let taken = c.take.ensures.taken c.in-Take.field-1 in cc
