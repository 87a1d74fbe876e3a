use Rattle.std.proofs.Common.{refl, sym, ap}
use Rattle.call_machine.specs.declared.insert.InsertStage.TheVariants as insert
use Rattle.call_machine.specs.declared.stage.CallStage.TheVariants as stage
use Rattle.cht_run.proofs.Goes.{goes}
use Rattle.cht_run.proofs.table.Cht.own_count.Goals as goal

pub returns-clause-at : goal.returns-clause-at
returns-clause-at g c =
    goes c.args.self.now g.M.Began.sight g.M.Began.call c.args.request.now _ _ _ _ (stage.Insert (insert.OwnCount c.args.slot)) _ _ c.load-count.result c.requires.at refl refl c.load-count.ensures.sits c.load-count.ensures.told
    (ap (λ h. (c.args.along.now, stage.Insert (insert.PutMeta h))) (sym c.handle_at.ensures.value))
