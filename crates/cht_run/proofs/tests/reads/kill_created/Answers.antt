use Rattle.cht_run.proofs.SeenAfter.{created_after}
use Rattle.cht_run.proofs.tests.reads.kill_created.Goals as goal

pub returns-clause-created : goal.returns-clause-created
returns-clause-created c = created_after c.args.cht.now.origin.table c.args.seat.now c.try_kill.new.seat _ _ c.try_kill.ensures.ended c.args.handle c.requires.created
