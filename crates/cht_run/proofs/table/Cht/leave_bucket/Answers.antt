use Rattle.std.proofs.Common.{refl, sym}
use Rattle.call_machine.specs.declared.clean.CleanStage.TheVariants as stage
use Rattle.cht_run.proofs.Cleans.{clean_further, clean_sound}
use Rattle.cht_run.proofs.table.Cht.leave_bucket.Goals as goal

pub next_after-requires : goal.next_after-requires
next_after-requires g c = record { sound = (c.args.self.now.origin.table.shape, c.args.self.now.sound, (clean_sound c.args.self.now g.M.Began.sight g.M.Began.call c.args.seat.now c.args.along.now stage.UnlockHead _ c.requires.at).cleaning) }

pub returns : goal.returns
returns g c = record {
  on = clean_further c.args.self.now g.M.Began.sight g.M.Began.call c.args.seat.now c.store.new.seat c.store.result _ c.store.ensures.sits c.store.ensures.told c.args.along.now stage.UnlockHead _ c.requires.at refl (sym c.next_after.ensures.value);
}
