use Rattle.std.proofs.Common.{refl}
use Rattle.call_machine.specs.declared.sweep.SweepStage.TheVariants as stage
use Rattle.cht_run.proofs.SweepSteps.{sweeps_on}
use Rattle.cht_run.proofs.table.Cht.leave_swept.Goals as goal

pub returns : goal.returns
returns g c = record {
  at = sweeps_on c.args.self.now g.M.Began.sight g.M.Began.call c.args.seat.now c.store.new.seat c.store.result _ c.store.ensures.sits c.store.ensures.told c.args.asked.now c.args.along.now _ stage.UnlockHead _
      c.requires.at refl refl;
}
