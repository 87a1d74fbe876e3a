use Rattle.std.proofs.Common.{[]}
use Rattle.cht_run.specs.Seats.{history}
use Rattle.cht_run.proofs.SeenAfter.{created_on}
use Rattle.cht_run.proofs.tests.meets.meet_to_hear.Goals as goal

pub returns-clause-created : goal.returns-clause-created
returns-clause-created c = created_on [] (history c.args.other.now) (history c.meet.new.seat) c.args.handle c.meet.ensures.first.heard c.requires.created
