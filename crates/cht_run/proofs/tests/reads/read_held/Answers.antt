use Rattle.cht_run.proofs.SeenAfter.{held_after_reading}
use Rattle.cht_run.proofs.tests.reads.read_held.Goals as goal

pub returns-clause-held : goal.returns-clause-held
returns-clause-held c =
    held_after_reading c.args.cht.now.origin.table c.args.seat.now c.text_of-text.new.seat c.args.handle c.text_of-text.result c.requires.counted c.text_of-text.ensures.ended c.args.handle c.requires.held
