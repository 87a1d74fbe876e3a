use Rattle.std.proofs.Common.{drop}
use Rattle.intern_log.specs.Now.{now_of}
use Rattle.log_check.proofs.Quiet.{NoneNamed}
use Rattle.log_check.proofs.follow.are_live.Given as goal

abbrev pub invariant-loop-event : goal.invariant-loop-event
invariant-loop-event l =
    NoneNamed (now_of l.table.min_level l.before) (drop l.event-index l.before) → NoneNamed (now_of l.table.min_level l.before) l.before
