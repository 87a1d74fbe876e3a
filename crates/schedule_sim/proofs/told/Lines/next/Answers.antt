use Rattle.schedule_sim.proofs.Lines.{lines_cut}
use Rattle.schedule_sim.proofs.told.Lines.next.Goals as goal

pub returns-in-Some-clause-line : goal.returns-in-Some-clause-line
returns-in-Some-clause-line c = lines_cut c.args.self.now.rest.now c.in-Some.line.now c.in-Some.behind.now c.in-Some.ensures.parts
