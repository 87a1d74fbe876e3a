use Rattle.std.proofs.Common.{refl}
use Rattle.cht_run.proofs.Resizes.{resize_further}
use Rattle.cht_run.proofs.table.Cht.clear_level.Goals as goal

pub returns : goal.returns
returns g c = record { on = resize_further c.store.result _ c.requires.at c.store.ensures.sits c.store.ensures.told refl }
