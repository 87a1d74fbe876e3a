use Rattle.std.proofs.Common.{refl}
use Rattle.call_machine.specs.declared.clean.CleanStage.TheVariants as stage
use Rattle.call_machine.specs.declared.lock.LockStage.TheVariants as lock
use Rattle.cht_run.proofs.Cleans.{clean_further, clean_sound, lock_leads}
use Rattle.cht_run.proofs.table.Cht.lock_bucket.Goals as goal

pub locked-requires : goal.locked-requires
locked-requires g c = record { «open» = ((clean_sound c.args.self.now g.M.Began.sight g.M.Began.call c.args.seat.now c.args.along.now (stage.Lock (lock.LockHead c.args.head)) _ c.requires.at).step 0).1 }

pub returns : goal.returns
returns g c = record {
  on = clean_further c.args.self.now g.M.Began.sight g.M.Began.call c.args.seat.now c.compare_exchange.new.seat c.compare_exchange.result _ c.compare_exchange.ensures.sits c.compare_exchange.ensures.told c.args.along.now (stage.Lock (lock.LockHead c.args.head)) _ c.requires.at refl
      (lock_leads c.args.along.now c.args.head c.compare_exchange.result);
}
