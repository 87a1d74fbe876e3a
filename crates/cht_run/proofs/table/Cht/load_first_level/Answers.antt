use Rattle.std.proofs.Common.{refl}
use Rattle.call_machine.specs.declared.begin.BeginStage.TheVariants as stage
use Rattle.cht_run.proofs.Beginnings.{begins_on}
use Rattle.cht_run.proofs.table.Cht.load_first_level.Goals as goal

pub returns : goal.returns
returns g c = record {
  at = begins_on c.args.self.now g.M.Began.sight g.M.Began.call c.args.seat.now c.load.new.seat c.load.result _ c.load.ensures.sits c.load.ensures.told (stage.LoadLevel c.args.direction) _ c.requires.at refl refl;
}
