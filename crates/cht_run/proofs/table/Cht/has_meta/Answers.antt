use Rattle.std.proofs.Common.{refl}
use Rattle.call_machine.specs.declared.node.NodeStage.TheVariants as node
use Rattle.call_machine.specs.declared.stage.CallStage.TheVariants as stage
use Rattle.cht_run.proofs.Goes.{goes}
use Rattle.cht_run.proofs.Leads.{meta_leads}
use Rattle.cht_run.proofs.table.Cht.has_meta.Goals as goal

pub returns : goal.returns
returns g c = record {
  at = goes c.args.self.now g.M.Began.sight g.M.Began.call c.args.request.now _ _ _ _ (stage.Node (node.Meta c.args.slot)) _ _ c.load.result c.requires.at refl refl c.load.ensures.sits c.load.ensures.told
      (meta_leads c.args.request.now c.args.along.now c.args.slot c.load.result c.to_word.result c.requires.at.request c.to_word.ensures.value);
}
