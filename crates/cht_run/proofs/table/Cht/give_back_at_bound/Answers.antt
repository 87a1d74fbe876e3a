use Rattle.std.proofs.Common.{refl}
use Rattle.call_machine.specs.declared.begin.BeginStage.TheVariants as stage
use Rattle.cht_run.specs.Beginnings.{at_bound}
use Rattle.cht_run.proofs.Beginnings.{begins_on}
use Rattle.cht_run.proofs.table.Cht.give_back_at_bound.Goals as goal

pub returns : goal.returns
returns g c = record {
  at = begins_on c.args.self.now g.M.Began.sight g.M.Began.call c.args.seat.now c.store.new.seat c.store.result _ c.store.ensures.sits c.store.ensures.told (stage.GiveResizeLock (at_bound c.args.direction c.args.level)) _
      c.requires.at refl refl;
}
