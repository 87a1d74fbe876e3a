use Rattle.cht_run.proofs.SeenAfter.{created_after}
use Rattle.cht_run.proofs.tests.reads.read_created.Goals as goal

pub returns-clause-created : goal.returns-clause-created
returns-clause-created c =
    let (_, ended) = c.text_of-text.ensures.ended in
    created_after c.args.cht.now.origin.table c.args.seat.now c.text_of-text.new.seat _ _ ended c.args.handle c.requires.created
