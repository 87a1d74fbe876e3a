use Rattle.std.proofs.Common.{refl}
use Rattle.call_machine.specs.declared.clean.CleanStage.TheVariants as stage
use Rattle.call_machine.specs.declared.lock.LockStage.TheVariants as lock
use Rattle.cht_run.proofs.Cleans.{clean_further}
use Rattle.cht_run.proofs.table.Cht.look_at_bucket.Goals as goal

pub returns : goal.returns
returns g c = record { on = clean_further c.args.self.now g.M.Began.sight g.M.Began.call c.args.seat.now c.load.new.seat c.load.result _ c.load.ensures.sits c.load.ensures.told c.args.along.now (stage.Lock lock.LoadHead) _ c.requires.at refl refl }
