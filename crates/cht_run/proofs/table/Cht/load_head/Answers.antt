use Rattle.std.proofs.Common.{refl}
use Rattle.call_machine.specs.declared.find.FindStage.TheVariants as find
use Rattle.call_machine.specs.declared.stage.CallStage.TheVariants as stage
use Rattle.call_machine.specs.Sought.{asked_of}
use Rattle.cht_run.proofs.Goes.{goes}
use Rattle.cht_run.proofs.Leads.{head_leads}
use Rattle.cht_run.proofs.table.Cht.load_head.Goals as goal

pub returns-clause-at : goal.returns-clause-at
returns-clause-at g c =
    goes c.args.self.now g.M.Began.sight g.M.Began.call c.args.request.now _ _ _ _ (stage.Find find.LoadHead) _ _ c.load-head.result c.requires.at refl refl c.load-head.ensures.sits c.load-head.ensures.told
    (head_leads (asked_of c.args.request.now) c.args.along.now c.load-head.result)
