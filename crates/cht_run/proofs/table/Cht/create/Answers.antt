use Rattle.std.proofs.Common.{refl}
use Rattle.call_machine.specs.declared.insert.InsertStage.TheVariants as insert
use Rattle.call_machine.specs.declared.stage.CallStage.TheVariants as stage
use Rattle.cht_run.proofs.Goes.{goes}
use Rattle.cht_run.proofs.Leads.{created_leads, lost_leads}
use Rattle.cht_run.proofs.table.Cht.create.Goals as goal

pub returns-then-word-head-clause-at : goal.returns-then-word-head-clause-at
returns-then-word-head-clause-at g c =
    goes c.args.self.now g.M.Began.sight g.M.Began.call c.args.request.now _ _ _ _ (stage.Insert (insert.Create c.args.handle)) _ _ c.compare_exchange-word.result c.requires.at refl refl c.compare_exchange-word.ensures.sits c.compare_exchange-word.ensures.told
    (created_leads c.args.along.now c.args.request.now.goal c.args.handle c.compare_exchange-word.result c.if-word-head.true)

pub returns-else-word-head-clause-at : goal.returns-else-word-head-clause-at
returns-else-word-head-clause-at g c =
    goes c.args.self.now g.M.Began.sight g.M.Began.call c.args.request.now _ _ _ _ (stage.Insert (insert.Create c.args.handle)) _ _ c.compare_exchange-word.result c.requires.at refl refl c.compare_exchange-word.ensures.sits c.compare_exchange-word.ensures.told
    (lost_leads c.args.along.now c.args.request.now.goal c.args.handle c.compare_exchange-word.result c.lost_head.result c.if-word-head.false c.lost_head.ensures.value)
