use Rattle.cht_run.proofs.SeenAfter.{held_after_look_up}
use Rattle.cht_run.proofs.tests.reads.look_up_holding.Goals as goal

pub returns-clause-held : goal.returns-clause-held
returns-clause-held c = held_after_look_up c.args.cht.now.origin.table c.args.seat.now c.try_lookup.new.seat c.args.text.now c.try_lookup.result c.try_lookup.ensures.ended c.args.handle c.requires.held
