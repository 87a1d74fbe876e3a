use Rattle.std.proofs.Common.{ap, refl}
use Rattle.atomic_step.specs.declared.count.Change.TheVariants as change
use Rattle.call_machine.specs.declared.stage.Asked.{Asked}
use Rattle.cht_run.proofs.ChangeEnds.{kill_ended}
use Rattle.cht_run.proofs.ChangeStarts.{change_starts}
use Rattle.cht_run.proofs.Ended.{works_stay}
use Rattle.cht_run.proofs.table.Cht.try_kill.Goals as goal

pub kill-requires : goal.kill-requires
kill-requires c =
    let s = c.args.seat.now in
    record {
      starts = rw c.sets_out-along.ensures.value (change_starts c.args.self.now s.raw c.asks-request.result s.number s.cursor change.Kill c.args.handle (record { table = c.requires.of.table; origin = c.requires.of.origin; seat = s.seat; bare = s.bare }) s.rests s.named s.next s.handles
          c.asks-request.ensures.asked (c.requires.kind, c.requires.created));
    }

pub returns : goal.returns
returns c = record {
  of = record { table = c.kill.ensures.at.sits.table; origin = c.kill.ensures.at.sits.origin };
  ended = kill_ended c.args.self.now c.args.seat.now _ c.asks-request.result c.sets_out-along.result c.args.handle (ap (λ (q : Asked). q.handle) c.asks-request.ensures.asked.asks) c.kill.result c.requires.created c.kill.ensures.at c.kill.ensures.did;
  works = works_stay c.args.self.now c.args.seat.now _ _ c.asks-request.result c.sets_out-along.result _ c.kill.ensures.at;
  fields = record { number = refl; cursor = refl; passed = refl };
}
