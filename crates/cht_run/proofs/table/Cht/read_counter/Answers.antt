use Rattle.std.proofs.Common.{refl, append-nil, ◌∙◌}
use Rattle.atomic_step.specs.declared.step.Step.TheVariants as step
use Rattle.call_machine.specs.declared.enter.EnterStage.TheVariants as enter
use Rattle.call_machine.specs.declared.read.ReadStage.TheVariants as read
use Rattle.call_machine.specs.declared.stage.CallStage.TheVariants as stage
use Rattle.cht_run.specs.Reads.{done_by}
use Rattle.cht_run.proofs.Firsts.{goes_first}
use Rattle.cht_run.proofs.TextReads.{first_done}
use Rattle.cht_run.proofs.table.Cht.read_counter.Goals as goal

pub returns : goal.returns
returns g c = record {
  at = goes_first c.args.self.now g.M.Began.sight g.M.Began.call c.args.request.now c.args.seat.now c.begin_load.new.seat c.args.along.now (stage.Read (read.Enter enter.LoadCounter)) step.LoadCounter c.begin_load.result c.requires.starts c.begin_load.ensures.told _ _
      c.args.self.now.sound refl c.begin_load.ensures.sits refl;
  own = first_done c.args.self.now g.M.Began.sight g.M.Began.call c.args.request.now c.args.seat.now c.begin_load.new.seat c.args.along.now (stage.Read (read.Enter enter.LoadCounter)) step.LoadCounter c.begin_load.result c.requires.starts c.begin_load.ensures.told
      ∙ append-nil (done_by g.M.Began.sight.number g.M.Began.sight);
}
