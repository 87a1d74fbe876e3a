use Rattle.std.proofs.Common.{◌∙◌, sym, refl}
use Rattle.atomic_step.specs.declared.step.Step.TheVariants as step
use Rattle.call_machine.specs.declared.draw.DrawStage.TheVariants as draw
use Rattle.call_machine.specs.declared.stage.CallStage.TheVariants as stage
use Rattle.cht_run.proofs.Draws.{load_made, load_spent}
use Rattle.cht_run.proofs.Firsts.{goes_first}
use Rattle.cht_run.proofs.table.Cht.count_drawn.Goals as goal

pub returns : goal.returns
returns g c =
    let at = goes_first c.args.self.now g.M.Began.sight g.M.Began.call c.args.request.now c.args.seat.now c.begin_load.new.seat c.args.along.now (stage.Draw draw.Load) step.LoadDraws c.begin_load.result
    c.requires.starts c.begin_load.ensures.told _ _ c.args.self.now.sound refl c.begin_load.ensures.sits refl in
    record {
      at = at;
      none = load_made c.args.self.now g.M.Began.sight g.M.Began.call c.args.request.now c.args.seat.now c.begin_load.new.seat c.args.along.now c.begin_load.result c.requires.starts c.begin_load.ensures.told;
      spent = load_spent c.args.self.now g.M.Began.sight g.M.Began.call c.args.request.now c.args.seat.now c.begin_load.new.seat c.args.along.now c.begin_load.result c.requires.starts c.begin_load.ensures.told at;
      slots = c.begin_load.ensures.sits.bare ∙ sym c.requires.starts.sits.bare;
    }
