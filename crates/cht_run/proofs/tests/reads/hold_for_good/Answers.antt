use Rattle.cht_run.proofs.SeenAfter.{held_after_permanent}
use Rattle.cht_run.proofs.tests.reads.hold_for_good.Goals as goal

pub returns-clause-held : goal.returns-clause-held
returns-clause-held c = held_after_permanent c.args.cht.now.origin.table c.args.seat.now c.try_permanent.new.seat c.args.handle c.try_permanent.result c.try_permanent.ensures.ended c.args.handle c.requires.held
