use Rattle.std.proofs.Common.{refl, sym, ap}
use Rattle.atomic_step.specs.declared.plan.Plan.TheVariants as plan
use Rattle.atomic_step.specs.declared.step.Step.TheVariants as step
use Rattle.call_machine.specs.declared.begin.BeginStage.TheVariants as stage
use Rattle.cht_run.proofs.Beginnings.{begins_on}
use Rattle.cht_run.proofs.table.Cht.take_resize_lock.Goals as goal

pub returns : goal.returns
returns g c = record {
  at = begins_on c.args.self.now g.M.Began.sight g.M.Began.call c.args.seat.now c.compare_exchange.new.seat c.compare_exchange.result _ c.compare_exchange.ensures.sits c.compare_exchange.ensures.told
      (stage.TakeResizeLock c.args.task) _ c.requires.at (ap (λ n. plan.Step (step.TakeResizeLock n)) (sym c.requires.number)) refl;
}
