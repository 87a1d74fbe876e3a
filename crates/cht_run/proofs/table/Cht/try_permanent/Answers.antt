use Rattle.std.proofs.Common.{ap, refl}
use Rattle.atomic_step.specs.declared.count.Change.TheVariants as change
use Rattle.call_machine.specs.declared.stage.Asked.{Asked}
use Rattle.cht_run.proofs.ChangeEnds.{permanent_ended}
use Rattle.cht_run.proofs.ChangeStarts.{change_starts}
use Rattle.cht_run.proofs.Ended.{works_stay}
use Rattle.cht_run.proofs.table.Cht.try_permanent.Goals as goal

pub let_stay-requires : goal.let_stay-requires
let_stay-requires c =
    let s = c.args.seat.now in
    record {
      starts = rw c.sets_out-along.ensures.value (change_starts c.args.self.now s.raw c.asks-request.result s.number s.cursor change.Permanent c.args.handle (record { table = c.requires.of.table; origin = c.requires.of.origin; seat = s.seat; bare = s.bare }) s.rests s.named s.next s.handles
          c.asks-request.ensures.asked (c.requires.kind, c.requires.held));
    }

pub returns : goal.returns
returns c = record {
  of = record { table = c.let_stay.ensures.at.sits.table; origin = c.let_stay.ensures.at.sits.origin };
  ended = permanent_ended c.args.self.now c.args.seat.now _ c.asks-request.result c.sets_out-along.result c.args.handle (ap (λ (q : Asked). q.handle) c.asks-request.ensures.asked.asks) c.let_stay.result c.let_stay.ensures.at c.let_stay.ensures.did;
  works = works_stay c.args.self.now c.args.seat.now _ _ c.asks-request.result c.sets_out-along.result _ c.let_stay.ensures.at;
  fields = record { number = refl; cursor = refl; passed = refl };
}
