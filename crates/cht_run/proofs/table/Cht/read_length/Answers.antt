use Rattle.std.proofs.Common.{refl, append-nil, ◌∙◌}
use Rattle.call_machine.specs.declared.read.ReadStage.TheVariants as read
use Rattle.call_machine.specs.declared.stage.CallStage.TheVariants as stage
use Rattle.cht_run.specs.Reads.{done_by}
use Rattle.cht_run.proofs.Goes.{goes}
use Rattle.cht_run.proofs.TextReads.{further_done, further_says, further_short}
use Rattle.cht_run.proofs.table.Cht.read_length.Goals as goal

pub returns : goal.returns
returns g c =
    let says = further_says c.args.self.now g.M.Began.sight g.M.Began.call c.args.request.now c.args.seat.now c.load.new.seat c.args.along.now (stage.Read read.Meta) _ c.load.result c.requires.at refl c.load.ensures.told refl in
    record {
      at = rw c.length_in.ensures.value (goes c.args.self.now g.M.Began.sight g.M.Began.call c.args.request.now _ _ _ _ (stage.Read read.Meta) _ _ c.load.result c.requires.at refl refl c.load.ensures.sits c.load.ensures.told refl);
      own = further_done c.args.self.now g.M.Began.sight g.M.Began.call c.args.request.now c.args.seat.now c.load.new.seat c.args.along.now (stage.Read read.Meta) _ c.load.result c.requires.at refl c.load.ensures.told
          ∙ append-nil (done_by g.M.Began.sight.number c.args.seat.now.me.0);
      long = (says.0, says.1, c.length_in.ensures.value ∙ says.2);
      short = rw c.length_in.ensures.value (further_short c.args.self.now g.M.Began.sight g.M.Began.call c.args.request.now c.args.seat.now c.load.new.seat c.args.along.now (stage.Read read.Meta) _ c.load.result c.requires.at refl c.load.ensures.told refl);
    }
