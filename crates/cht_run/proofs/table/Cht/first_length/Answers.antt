use Rattle.std.proofs.Common.{refl, append-nil, ◌∙◌}
use Rattle.atomic_step.specs.declared.step.Step.TheVariants as step
use Rattle.call_machine.specs.declared.read.ReadStage.TheVariants as read
use Rattle.call_machine.specs.declared.stage.CallStage.TheVariants as stage
use Rattle.cht_run.specs.Reads.{done_by}
use Rattle.cht_run.proofs.Firsts.{goes_first}
use Rattle.cht_run.proofs.TextReads.{first_done, first_says, first_short}
use Rattle.cht_run.proofs.table.Cht.first_length.Goals as goal

pub returns : goal.returns
returns g c =
    let at = goes_first c.args.self.now g.M.Began.sight g.M.Began.call c.args.request.now c.args.seat.now c.begin_load.new.seat c.args.along.now (stage.Read read.Meta) (step.LoadMeta c.args.request.now.handle.slot) c.begin_load.result
    c.requires.starts c.begin_load.ensures.told _ _ c.args.self.now.sound refl c.begin_load.ensures.sits refl in
    let says = first_says c.args.self.now g.M.Began.sight g.M.Began.call c.args.request.now c.args.seat.now c.begin_load.new.seat c.args.along.now (stage.Read read.Meta) (step.LoadMeta c.args.request.now.handle.slot) c.begin_load.result c.requires.starts c.begin_load.ensures.told refl in
    record {
      at = rw c.length_in.ensures.value at;
      own = first_done c.args.self.now g.M.Began.sight g.M.Began.call c.args.request.now c.args.seat.now c.begin_load.new.seat c.args.along.now (stage.Read read.Meta) (step.LoadMeta c.args.request.now.handle.slot) c.begin_load.result c.requires.starts c.begin_load.ensures.told
          ∙ append-nil (done_by g.M.Began.sight.number g.M.Began.sight);
      long = (says.0, says.1, c.length_in.ensures.value ∙ says.2);
      short = rw c.length_in.ensures.value (first_short c.args.self.now g.M.Began.sight g.M.Began.call c.args.request.now c.args.seat.now c.begin_load.new.seat c.args.along.now (stage.Read read.Meta) (step.LoadMeta c.args.request.now.handle.slot) c.begin_load.result c.requires.starts c.begin_load.ensures.told refl refl _ at);
    }
