use Rattle.std.proofs.Common.{refl}
use Rattle.call_machine.specs.declared.node.NodeStage.TheVariants as node
use Rattle.call_machine.specs.declared.stage.CallStage.TheVariants as stage
use Rattle.call_machine.specs.Sought.{asked_of}
use Rattle.cht_run.proofs.Goes.{goes}
use Rattle.cht_run.proofs.Leads.{take_leads}
use Rattle.cht_run.proofs.table.Cht.take.Goals as goal

pub returns : goal.returns
returns g c = record {
  at = goes c.args.self.now g.M.Began.sight g.M.Began.call c.args.request.now _ _ _ _ (stage.Node (node.Take c.args.slot c.args.count)) _ _ c.compare_exchange.result c.requires.at refl refl c.compare_exchange.ensures.sits c.compare_exchange.ensures.told
      (take_leads (asked_of c.args.request.now) c.args.along.now c.args.slot c.args.count c.compare_exchange.result);
}
