use Rattle.std.proofs.Common.{refl}
use Rattle.call_machine.specs.Sweep.{finds_anew}
use Rattle.cht_run.proofs.SweepSteps.{sweeps_on}
use Rattle.cht_run.proofs.table.Cht.enter_swept.Goals as goal

pub returns : goal.returns
returns g c = record {
  at = sweeps_on c.args.self.now g.M.Began.sight g.M.Began.call c.args.seat.now c.load.new.seat c.load.result _ c.load.ensures.sits c.load.ensures.told c.args.asked.now c.args.along.now _ finds_anew _ c.requires.at refl refl;
}
