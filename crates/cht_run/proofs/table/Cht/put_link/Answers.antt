use Rattle.std.proofs.Common.{refl}
use Rattle.call_machine.specs.declared.insert.InsertStage.TheVariants as insert
use Rattle.call_machine.specs.declared.stage.CallStage.TheVariants as stage
use Rattle.cht_run.proofs.Goes.{goes}
use Rattle.cht_run.proofs.table.Cht.put_link.Goals as goal

pub returns : goal.returns
returns g c = record {
  at = goes c.args.self.now g.M.Began.sight g.M.Began.call c.args.request.now _ _ _ _ (stage.Insert (insert.PutLink c.args.handle)) _ _ c.store.result c.requires.at refl refl c.store.ensures.sits c.store.ensures.told
      (refl);
}
