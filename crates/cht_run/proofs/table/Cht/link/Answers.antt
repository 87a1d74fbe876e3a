use Rattle.std.proofs.Common.{refl, arith}
use Rattle.call_machine.specs.declared.node.NodeStage.TheVariants as node
use Rattle.call_machine.specs.declared.stage.CallStage.TheVariants as stage
use Rattle.call_machine.specs.Sought.{asked_of}
use Rattle.cht_run.proofs.Goes.{goes, passed_few}
use Rattle.cht_run.proofs.Leads.{link_leads}
use Rattle.cht_run.proofs.table.Cht.link.Goals as goal

pub returns-clause-at : goal.returns-clause-at
returns-clause-at g c =
    let few = passed_few c.args.self.now g.M.Began.sight g.M.Began.call c.args.request.now _ _ (stage.Node (node.Link c.args.slot)) c.requires.at in
    goes c.args.self.now g.M.Began.sight g.M.Began.call c.args.request.now _ _ _ _ (stage.Node (node.Link c.args.slot)) _ _ c.load-word.result c.requires.at refl refl c.load-word.ensures.sits c.load-word.ensures.told
    (link_leads (asked_of c.args.request.now) c.args.along.now c.load-word.result _ c.node_of.result c.node_of.ensures.value (omega (arith, few.1)))
