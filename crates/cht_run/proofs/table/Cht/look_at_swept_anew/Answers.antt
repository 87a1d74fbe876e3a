use Rattle.std.proofs.Common.{refl}
use Rattle.call_machine.specs.declared.find.FindStage.TheVariants as find
use Rattle.call_machine.specs.declared.sweep.SweepStage.TheVariants as stage
use Rattle.cht_run.proofs.SweepSteps.{sweeps_on}
use Rattle.cht_run.proofs.table.Cht.look_at_swept_anew.Goals as goal

pub returns : goal.returns
returns g c = record {
  at = sweeps_on c.args.self.now g.M.Began.sight g.M.Began.call c.args.seat.now c.load-along.new.seat c.load-along.result _ c.load-along.ensures.sits c.load-along.ensures.told c.args.asked.now c.args.along.now _
      (stage.Find find.LoadNewHead) _ c.requires.at refl refl;
}
