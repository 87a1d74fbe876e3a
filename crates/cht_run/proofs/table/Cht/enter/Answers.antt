use Rattle.std.proofs.Common.{refl}
use Rattle.call_machine.specs.declared.enter.EnterStage.TheVariants as enter
use Rattle.call_machine.specs.declared.find.FindStage.TheVariants as find
use Rattle.call_machine.specs.declared.stage.CallStage.TheVariants as stage
use Rattle.cht_run.proofs.Goes.{enters}
use Rattle.cht_run.proofs.table.Cht.enter.Goals as goal

pub returns : goal.returns
returns g c = record {
  at = enters c.args.self.now g.M.Began.sight g.M.Began.call c.args.request.now _ _ _ _ (stage.Find (find.Enter enter.LoadCounter)) (stage.Find (find.Enter (enter.OpenSection c.begin_load.result))) _ c.begin_load.result c.requires.sits
      c.requires.began c.requires.call c.requires.causes c.requires.walk.request c.requires.walk.first refl refl c.begin_load.ensures.sits c.begin_load.ensures.told refl;
}
