use Rattle.std.proofs.Common.{refl}
use Rattle.call_machine.specs.declared.node.NodeStage.TheVariants as node
use Rattle.call_machine.specs.declared.stage.CallStage.TheVariants as stage
use Rattle.call_machine.specs.Sought.{asked_of}
use Rattle.cht_run.proofs.Goes.{goes}
use Rattle.cht_run.proofs.Leads.{word_leads}
use Rattle.cht_run.proofs.table.Cht.has_word.Goals as goal

pub returns : goal.returns
returns g c = record {
  at = goes c.args.self.now g.M.Began.sight g.M.Began.call c.args.request.now _ _ _ _ (stage.Node (node.Text c.args.slot c.args.at)) _ _ c.load-word.result c.requires.at refl refl c.load-word.ensures.sits c.load-word.ensures.told
      (word_leads (asked_of c.args.request.now) c.args.along.now c.args.slot c.args.at c.load-word.result c.equal_word.result c.equal_word.ensures.equal);
}
