use Rattle.cht_run.proofs.GraceCalls.{begins_grace}
use Rattle.cht_run.proofs.table.Cht.begin_grace.Goals as goal

pub returns-clause-began : goal.returns-clause-began
returns-clause-began c = begins_grace c.args.self.now c.args.seat.now c.run_begin_grace.new.seat c.requires.of c.run_begin_grace.result c.run_begin_grace.ensures.ran
