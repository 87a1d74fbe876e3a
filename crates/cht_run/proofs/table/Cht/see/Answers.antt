use Rattle.std.proofs.Common.{refl}
use Rattle.atomic_step.specs.declared.step.Step.TheVariants as step
use Rattle.call_machine.specs.declared.handle.HandleStage.TheVariants as handle
use Rattle.call_machine.specs.declared.stage.CallStage.TheVariants as stage
use Rattle.cht_run.proofs.Changes.{has_seen}
use Rattle.cht_run.proofs.Firsts.{goes_first}
use Rattle.cht_run.proofs.table.Cht.see.Goals as goal

pub returns : goal.returns
returns g c = record {
  at = goes_first c.args.self.now g.M.Began.sight g.M.Began.call c.args.request.now c.args.seat.now c.begin_load.new.seat c.args.along.now (stage.Handle (handle.Count c.args.change)) (step.SeeHandle c.args.change c.args.request.now.handle) c.begin_load.result
      c.requires.starts c.begin_load.ensures.told _ _ c.args.self.now.sound refl c.begin_load.ensures.sits refl;
  did = has_seen c.args.self.now g.M.Began.sight g.M.Began.call c.args.request.now c.args.seat.now c.begin_load.new.seat c.args.along.now c.args.change c.begin_load.result c.requires.starts c.begin_load.ensures.told;
}
