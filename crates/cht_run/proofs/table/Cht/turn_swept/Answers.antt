use Rattle.std.proofs.Common.{refl}
use Rattle.call_machine.specs.declared.find.FindStage.TheVariants as find
use Rattle.call_machine.specs.declared.sweep.SweepStage.TheVariants as stage
use Rattle.cht_run.proofs.SweepSteps.{sweeps_on, turns_to}
use Rattle.cht_run.proofs.table.Cht.turn_swept.Goals as goal

pub returns : goal.returns
returns g c = record {
  at = sweeps_on c.args.self.now g.M.Began.sight g.M.Began.call c.args.seat.now c.load-level.new.seat c.load-level.result _ c.load-level.ensures.sits c.load-level.ensures.told c.args.asked.now c.args.along.now _
      (stage.Find find.LoadLevel) _ c.requires.at refl
      (turns_to c.args.along.now _ c.turned_to-along.result find.LoadHead c.turned_to-along.ensures.value);
}
