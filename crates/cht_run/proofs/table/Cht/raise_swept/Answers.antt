use Rattle.std.proofs.Common.{refl}
use Rattle.call_machine.specs.declared.sweep.SweepStage.TheVariants as stage
use Rattle.call_machine.specs.declared.grace.GraceStage.TheVariants.{RaiseCounter}
use Rattle.cht_run.proofs.SweepSteps.{sweeps_on}
use Rattle.cht_run.proofs.table.Cht.raise_swept.Goals as goal

pub returns : goal.returns
returns g c = record {
  at = sweeps_on c.args.self.now g.M.Began.sight g.M.Began.call c.args.seat.now c.fetch_add-counter.new.seat c.fetch_add-counter.result _ c.fetch_add-counter.ensures.sits c.fetch_add-counter.ensures.told c.args.asked.now
      c.args.along.now _ (stage.Grace RaiseCounter) _ c.requires.at refl refl;
}
