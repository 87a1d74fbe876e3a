use Rattle.std.proofs.Common.{[], refl, subst}
use Rattle.atomic_step.specs.declared.answer.Answer.TheVariants as answer
use Rattle.call_machine.specs.declared.call.Call.TheVariants as call
use Rattle.cht_run.specs.declared.sight.Origin.{Origin}
use Rattle.cht_run.specs.Draws.{AllDrawn}
use Rattle.cht_run.proofs.Ended.{ended, works_stay}
use Rattle.cht_run.proofs.table.Cht.split.Goals as goal

pub returns-in_default-clause-spent : goal.returns-in_default-clause-spent
returns-in_default-clause-spent c =
    let none = c.in_default.ensures.drawn in
    record {
      of = record { table = none.0.sits.table; origin = none.0.sits.origin };
      fields = record { number = refl; cursor = refl; passed = refl };
      works = works_stay c.args.self.now c.args.seat.now _ call.Split c.asks-request.result c.sets_out-along.result answer.SeatsSpent none.0;
      ended = ended c.args.self.now c.args.seat.now _ call.Split c.asks-request.result c.sets_out-along.result answer.SeatsSpent none.0 [] _ none.1
          (subst (λ (o : Origin). AllDrawn o.table.shape.seats c.draw.new.seat.me.0.history) c.requires.of.origin none.2);
    }
