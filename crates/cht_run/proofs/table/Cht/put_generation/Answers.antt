use Rattle.std.proofs.Common.{refl}
use Rattle.call_machine.specs.declared.pass.FreeStage.TheVariants as free
use Rattle.cht_run.proofs.Underway.{frees_further}
use Rattle.cht_run.proofs.table.Cht.put_generation.Goals as goal

pub returns : goal.returns
returns g c = record {
  on = frees_further c.args.self.now g.M.Began.sight g.M.Began.call c.args.seat.now c.store.new.seat c.store.result _ c.store.ensures.sits c.store.ensures.told g.W.Freeing.frees c.args.cleaning.now (free.PutNextGeneration c.args.at) _ c.requires.freeing c.requires.at refl refl;
}
