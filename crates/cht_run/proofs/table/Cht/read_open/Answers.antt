use Rattle.std.proofs.Common.{refl}
use Rattle.call_machine.specs.declared.enter.EnterStage.TheVariants as enter
use Rattle.call_machine.specs.declared.read.ReadStage.TheVariants as read
use Rattle.call_machine.specs.declared.stage.CallStage.TheVariants as stage
use Rattle.cht_run.proofs.Goes.{goes}
use Rattle.cht_run.proofs.TextReads.{further_done}
use Rattle.cht_run.proofs.table.Cht.read_open.Goals as goal

pub returns : goal.returns
returns g c = record {
  at = goes c.args.self.now g.M.Began.sight g.M.Began.call c.args.request.now _ _ _ _ (stage.Read (read.Enter (enter.OpenSection c.args.counter))) (stage.Read read.Count) _ c.store.result c.requires.at refl refl c.store.ensures.sits c.store.ensures.told refl;
  own = further_done c.args.self.now g.M.Began.sight g.M.Began.call c.args.request.now c.args.seat.now c.store.new.seat c.args.along.now (stage.Read (read.Enter (enter.OpenSection c.args.counter))) _ c.store.result c.requires.at refl c.store.ensures.told;
}
