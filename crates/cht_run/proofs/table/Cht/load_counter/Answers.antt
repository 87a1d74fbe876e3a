use Rattle.std.proofs.Common.{rules}
use Rattle.cht_run.proofs.Beginnings.{begun_at}
use Rattle.cht_run.proofs.table.Cht.load_counter.Goals as goal

pub returns : goal.returns
returns g c = record {
  at = begun_at c.args.self.now g.M.Began.sight g.M.Began.call c.args.seat.now c.begin_load.new.seat c.begin_load.result c.args.self.now.sound (search rules) c.requires.begins c.begin_load.ensures.sits c.begin_load.ensures.told;
}
