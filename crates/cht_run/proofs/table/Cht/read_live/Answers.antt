use Rattle.std.proofs.Common.{refl, append-nil, ◌∙◌}
use Rattle.call_machine.specs.declared.read.ReadStage.TheVariants as read
use Rattle.call_machine.specs.declared.stage.CallStage.TheVariants as stage
use Rattle.cht_run.specs.Reads.{done_by}
use Rattle.cht_run.proofs.Goes.{goes}
use Rattle.cht_run.proofs.TextReads.{further_done}
use Rattle.cht_run.proofs.table.Cht.read_live.Goals as goal

pub returns : goal.returns
returns g c = record {
  at = rw c.is_live.ensures.value (goes c.args.self.now g.M.Began.sight g.M.Began.call c.args.request.now _ _ _ _ (stage.Read read.Count) _ _ c.load-count.result c.requires.at refl refl c.load-count.ensures.sits c.load-count.ensures.told refl);
  own = further_done c.args.self.now g.M.Began.sight g.M.Began.call c.args.request.now c.args.seat.now c.load-count.new.seat c.args.along.now (stage.Read read.Count) _ c.load-count.result c.requires.at refl c.load-count.ensures.told
      ∙ append-nil (done_by g.M.Began.sight.number c.args.seat.now.me.0);
}
