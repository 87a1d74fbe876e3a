use Rattle.std.proofs.Common.{None, refl}
use Rattle.call_machine.specs.Begin.{goes_on}
use Rattle.cht_run.proofs.Beginnings.{begins_on}
use Rattle.cht_run.proofs.table.Cht.raise_first.Goals as goal

pub returns : goal.returns
returns g c = record {
  at = begins_on c.args.self.now g.M.Began.sight g.M.Began.call c.args.seat.now c.fetch_add-counter.new.seat c.fetch_add-counter.result _ c.fetch_add-counter.ensures.sits c.fetch_add-counter.ensures.told (goes_on None) _
      c.requires.at refl refl;
}
