use Rattle.std.proofs.Common.{refl}
use Rattle.call_machine.specs.declared.find.FindStage.TheVariants as find
use Rattle.call_machine.specs.declared.stage.CallStage.TheVariants as stage
use Rattle.cht_run.proofs.Goes.{goes}
use Rattle.cht_run.proofs.Leads.{turned_leads}
use Rattle.cht_run.proofs.table.Cht.load_level.Goals as goal

pub returns-clause-at : goal.returns-clause-at
returns-clause-at g c =
    goes c.args.self.now g.M.Began.sight g.M.Began.call c.args.request.now _ _ _ _ (stage.Find find.LoadLevel) (stage.Find find.LoadHead) _ c.load-level.result c.requires.at refl refl c.load-level.ensures.sits c.load-level.ensures.told
    (turned_leads c.args.request.now c.args.along.now c.load-level.result c.turned_to.result find.LoadHead c.requires.at.request c.turned_to.ensures.value)
