use Rattle.cht_run.proofs.SweepRuns.{swept_so}
use Rattle.cht_run.proofs.table.Cht.sweep.Goals as goal

pub returns-clause-swept : goal.returns-clause-swept
returns-clause-swept g c = swept_so c.args.self.now c.args.seat.now c.run_sweep.new.seat c.args.text c.run_sweep.ensures.ran.0 c.run_sweep.result c.requires.of c.run_sweep.ensures.ran.1
